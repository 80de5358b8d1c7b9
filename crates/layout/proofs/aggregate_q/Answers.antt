-- `layout::aggregate_q` meets its contract: after each generator the three tables are those of the generators passed. Assumes nothing.
use native.Mathlib.Omega.{arith}
use Rattle.layout.specs.Limits.Laws.{sums-more, gens-more}
use Rattle.layout.proofs.aggregate_q.Goals as goal

pub loop-g-preserved : goal.loop-g-preserved
loop-g-preserved c =
    let l = c.loop-g in
    let a = c.args in
    let below = c.requires.2 l.g (omega arith) in (
      omega arith,
      l.invariant.1,
      rw l.invariant.2 (sums-more a.gens.bus.now l.g below a.gens.qmin.now),
      rw l.invariant.3 (sums-more a.gens.bus.now l.g below a.gens.qmax.now),
      rw l.invariant.4 (gens-more a.gens.bus.now l.g below),
    )

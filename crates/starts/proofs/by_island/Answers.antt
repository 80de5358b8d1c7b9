-- `starts::by_island` meets its contract: after each row its island has its slack and its reference. Assumes nothing.
use mathlib.Core.Path.{refl}
use native.Mathlib.Omega.{arith}
use Rattle.starts.specs.References.Laws.{rows-begin, rows_more}
use Rattle.starts.proofs.by_island.Goals as goal

pub loop-i-init : goal.loop-i-init
loop-i-init c = let a = c.args in (omega arith, refl, rows-begin a.slacks.bus.now a.labels _ _, rows-begin a.slacks.bus.now a.labels _ _)

pub loop-i-preserved : goal.loop-i-preserved
loop-i-preserved c =
    let l = c.loop-i in
    let a = c.args in
    let below = c.requires.2 l.i (omega arith) in (
      omega arith,
      l.invariant.1,
      rw l.invariant.2 (rows_more a.slacks.bus.now a.labels _ _ l.i below),
      rw l.invariant.3 (rows_more a.slacks.bus.now a.labels _ _ l.i below),
    )

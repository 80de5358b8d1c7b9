-- `ybus::first_fault` meets its contract: no row passed is at fault. Assumes nothing.
use Rattle.std.proofs.Common.{◌≡◌, sym, arith, length}
use Rattle.real.specs.First.Laws.{lowest-at, clear-nowhere}
use Rattle.ybus.proofs.first_fault.Goals as goal

pub returns-then-tap-e : goal.returns-then-tap-e
returns-then-tap-e c =
    let l = c.loop-e in
    sym (lowest-at _ _ l.e (record { inside = omega arith; passes = c.if-tap-e.true; lower = l.invariant.2 }))

pub returns : goal.returns
returns c =
    let l = c.loop-e in
    let e : l.e ≡ length c.args.ends.from.now = omega arith in
    sym (clear-nowhere _ _ (rw e at l.invariant.2))

-- `ybus::with_ends` meets its contract: two places for each branch passed. Assumes nothing.
use mathlib.Core.Path.{◌≡◌, refl}
use native.Mathlib.Omega.{arith}
use lib.ListN.{length}
use Rattle.ybus.specs.Listed.{pairs}
use Rattle.ybus.specs.Listed.Laws.{pairs-turn}
use Rattle.ybus.proofs.with_ends.Goals as goal

pub loop-e-init : goal.loop-e-init
unfolding pairs
loop-e-init c = (omega arith, refl, refl)

pub loop-e-preserved : goal.loop-e-preserved
loop-e-preserved c = let l = c.loop-e in (omega arith, l.invariant.1, rw (pairs-turn, ← l.invariant.2))

pub returns : goal.returns
returns c =
    let l = c.loop-e in
    let e : l.e ≡ length c.args.a.now = omega arith in
    rw (← e) l.invariant.2

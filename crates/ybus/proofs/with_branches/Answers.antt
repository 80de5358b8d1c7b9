-- `ybus::with_branches` meets its contract: two places for each branch passed. Assumes nothing.
use mathlib.Core.Path.{◌≡◌, refl}
use native.Mathlib.Omega.{arith}
use Rattle.ybus.specs.Ybus.{with_branches}
use Rattle.ybus.specs.Listed.{pairs}
use Rattle.ybus.specs.Listed.Laws.{pairs-turn}
use Rattle.ybus.proofs.with_branches.Goals as goal

pub loop-e-init : goal.loop-e-init
unfolding pairs
loop-e-init c = (omega arith, refl, refl)

pub loop-e-preserved : goal.loop-e-preserved
loop-e-preserved c = let l = c.loop-e in (omega arith, rw (pairs-turn, ← l.invariant.1), rw (pairs-turn, ← l.invariant.2))

pub returns : goal.returns
unfolding with_branches
returns c =
    let l = c.loop-e in
    let e : l.e ≡ c.args.m = omega arith in
    rw (← e, l.invariant.1, l.invariant.2)

-- `linsolve::substitute_back` meets its contract. Assumes nothing.
use mathlib.Core.Path.{◌≡◌}
use Prim.Native.Nat.{suc, ◌-◌}
use native.Mathlib.Omega.{arith}
use Rattle.linsolve.specs.Linear.Laws.{substitute-turn, substitute-end}
use Rattle.linsolve.proofs.substitute_back.Goals as goal

pub loop-r-preserved : goal.loop-r-preserved
loop-r-preserved c =
    let e : c.loop-r.r ≡ suc (c.loop-r.r - 1) = omega arith in
    rw c.less_known-x.ensures (rw (e, substitute-turn) at c.loop-r.invariant)

pub returns : goal.returns
returns c = let e : c.loop-r.r ≡ 0 = omega arith in rw (e, substitute-end) at c.loop-r.invariant

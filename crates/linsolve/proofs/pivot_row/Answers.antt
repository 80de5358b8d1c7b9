-- `linsolve::pivot_row` meets its contract. Assumes nothing.
use mathlib.Core.Path.{◌≡◌}
use Prim.Native.Nat.{suc, ◌+◌, ◌-◌}
use native.Mathlib.Omega.{arith}
use Rattle.linsolve.specs.Linear.Laws.{pivot-above, pivot-not-above, pivot-end}
use Rattle.linsolve.proofs.pivot_row.Goals as goal
use Rattle.linsolve.proofs.pivot_row.Goals.{else-x-best, then-x-best}

pub loop-r-preserved : goal.loop-r-preserved
loop-r-preserved c =
    let dim = c.args.dim in
    let e : dim - c.loop-r.r ≡ suc (dim - (c.loop-r.r + 1)) = omega arith in
    let x = c.abs-x.ensures in
    let (left, within) = c.loop-r.invariant in
    elim c.if-x-best.branch [ then-x-best y ↦ rw (y.best-is, y.p-is) (rw (e, pivot-above _ _ _ _ _ _ _ x y.if-x-best.true) at left, c.loop-r-test.true) | else-x-best y ↦ rw (y.best-is, y.p-is) (rw (e, pivot-not-above _ _ _ _ _ _ _ x y.if-x-best.false) at left, within) ]

pub returns-clause-is : goal.returns-clause-is
returns-clause-is c = let e : c.args.dim - c.loop-r.r ≡ 0 = omega arith in rw (e, pivot-end) at c.loop-r.invariant.0

-- `linsolve::reduce_rows` meets its contract. Assumes nothing.
use mathlib.Core.Path.{◌≡◌, refl}
use mathlib.Core.Logic.{◌≢◌}
use Prim.Native.Nat.{suc, ◌+◌, ◌-◌}
use native.Mathlib.Omega.{arith}
use Rattle.linsolve.specs.Linear.Laws.{reduce-singular, reduce-on, reduce-end}
use Rattle.linsolve.proofs.reduce_rows.Goals as goal

pub returns-in_default : goal.returns-in_default
returns-in_default c =
    let dim = c.args.dim in
    let e : dim - c.loop-col.col ≡ suc (dim - (c.loop-col.col + 1)) = omega arith in
    rw (e, reduce-singular _ _ _ _ _ _ c.in_default.ensures.is refl) at c.loop-col.invariant

pub loop-col-preserved : goal.loop-col-preserved
loop-col-preserved c =
    let dim = c.args.dim in
    let e : dim - c.loop-col.col ≡ suc (dim - (c.loop-col.col + 1)) = omega arith in
    let d : c.in-Some.p ≢ dim = omega (arith, c.in-Some.ensures.within) in
    rw (c.sub_lower.ensures, c.swap_rows.ensures) (rw (e, reduce-on _ _ _ _ _ _ c.in-Some.ensures.is d) at c.loop-col.invariant)

pub returns : goal.returns
returns c = let e : c.args.dim - c.loop-col.col ≡ 0 = omega arith in rw (e, reduce-end) at c.loop-col.invariant

-- `linsolve::clear` meets its contract. Assumes nothing.
use mathlib.Core.Path.{◌≡◌, ◌∙◌}
use Prim.Native.Nat.{suc, ◌+◌, ◌-◌}
use native.Mathlib.Omega.{arith}
use Rattle.linsolve.specs.Linear.Laws.{clear-turn, clear-end}
use Rattle.linsolve.proofs.clear.Goals as goal

pub loop-r-preserved : goal.loop-r-preserved
loop-r-preserved c =
    let dim = c.args.dim in
    let e : dim - c.loop-r.r ≡ suc (dim - (c.loop-r.r + 1)) = omega arith in
    rw c.clear_from.ensures (rw (e, clear-turn) at c.loop-r.invariant)

pub returns : goal.returns
returns c =
    let e : c.args.dim - c.loop-r.r ≡ 0 = omega arith in
    c.clear_from-2.ensures ∙ (rw (e, clear-end) at c.loop-r.invariant)

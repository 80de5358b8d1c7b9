-- `linsolve::sub_lower` meets its contract. Assumes nothing.
use mathlib.Core.Path.{◌≡◌}
use Prim.Native.Nat.{suc, ◌+◌, ◌-◌}
use native.Mathlib.Omega.{arith}
use Rattle.linsolve.specs.Linear.Laws.{lower-turn, lower-end}
use Rattle.linsolve.proofs.sub_lower.Goals as goal

pub loop-r-preserved : goal.loop-r-preserved
loop-r-preserved c =
    let dim = c.args.dim in
    let e : dim - c.loop-r.r ≡ suc (dim - (c.loop-r.r + 1)) = omega arith in
    rw c.sub_row.ensures (rw (e, lower-turn) at c.loop-r.invariant)

pub returns : goal.returns
returns c = let e : c.args.dim - c.loop-r.r ≡ 0 = omega arith in rw (e, lower-end) at c.loop-r.invariant

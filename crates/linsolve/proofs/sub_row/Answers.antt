-- `linsolve::sub_row` meets its contract. Assumes nothing.
use mathlib.Core.Path.{◌≡◌}
use Prim.Native.Nat.{suc, ◌+◌, ◌-◌}
use Rattle.linsolve.specs.Linear.Laws.{sub-turn, sub-end}
use native.Mathlib.Omega.{arith}
use Rattle.linsolve.proofs.sub_row.Goals as goal

pub loop-c-preserved : goal.loop-c-preserved
loop-c-preserved c =
    let e : c.args.dim - c.loop-c.c ≡ suc (c.args.dim - (c.loop-c.c + 1)) = omega arith in
    rw (e, sub-turn) at c.loop-c.invariant

pub returns : goal.returns
returns c =
    let e : c.args.dim - c.loop-c.c ≡ 0 = omega arith in
    rw (e, sub-end) at c.loop-c.invariant

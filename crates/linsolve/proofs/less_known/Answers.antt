-- `linsolve::less_known` meets its contract. Assumes nothing.
use mathlib.Core.Path.{◌≡◌}
use Prim.Native.Nat.{suc, ◌+◌, ◌-◌}
use native.Mathlib.Omega.{arith}
use Rattle.linsolve.specs.Linear.Laws.{known-turn, known-end}
use Rattle.linsolve.proofs.less_known.Goals as goal

pub loop-c-preserved : goal.loop-c-preserved
loop-c-preserved c =
    let e : c.args.dim - c.loop-c.c ≡ suc (c.args.dim - (c.loop-c.c + 1)) = omega arith in
    rw (e, known-turn) at c.loop-c.invariant

pub returns : goal.returns
returns c = let e : c.args.dim - c.loop-c.c ≡ 0 = omega arith in rw (e, known-end) at c.loop-c.invariant

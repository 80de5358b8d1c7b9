-- `linsolve::swap_rows` meets its contract. Assumes nothing.
use mathlib.Core.Path.{◌≡◌, sym, ◌∙◌}
use Prim.Native.Nat.{suc, ◌+◌, ◌-◌, ◌*◌}
use Rattle.std.proofs.lemmas.List.Edits.{swap_is}
use Rattle.std.specs.Float.{nan}
use Rattle.linsolve.specs.Linear.Laws.{swap_self, swap-turn, swap-end}
use native.Mathlib.Omega.{arith}
use Rattle.linsolve.proofs.swap_rows.Goals as goal

pub loop-c-preserved : goal.loop-c-preserved
loop-c-preserved c =
    let dim = c.args.dim in
    let e : dim - c.loop-c.c ≡ suc (dim - (c.loop-c.c + 1)) = omega arith in
    let is = swap_is c.loop-c.w (c.args.a * 64 + c.loop-c.c) (c.args.b * 64 + c.loop-c.c) nan (omega arith) (omega arith) in
    rw (c.swap.ensures.after ∙ sym is) (rw (e, swap-turn) at c.loop-c.invariant)

pub returns-then-a-b : goal.returns-then-a-b
returns-then-a-b c = rw c.if-a-b.true (sym (swap_self _ _ _ _))

pub returns : goal.returns
returns c =
    let e : c.args.dim - c.loop-c.c ≡ 0 = omega arith in
    let is = swap_is c.loop-c.w (4096 + c.args.a) (4096 + c.args.b) nan (omega arith) (omega arith) in
    c.swap-2.ensures.after ∙ sym is ∙ (rw (e, swap-end) at c.loop-c.invariant)

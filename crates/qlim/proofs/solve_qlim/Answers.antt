-- `qlim::solve_qlim` meets its contract: the rounds that are left give what all twelve give. Assumes nothing.
use mathlib.Core.Path.{◌≡◌, sym, ◌∙◌}
use native.Mathlib.Omega.{arith}
use lib.Ieee.{div, of_bits}
use Rattle.newton.specs.Newton.Laws.{fuel}
use Rattle.qlim.specs.Rounds.Laws.{rounds-begin}
use Rattle.qlim.proofs.Rounds.{rounds-end, rounds-go_on, rounds-last}
use Rattle.qlim.proofs.solve_qlim.Goals as goal
use Rattle.qlim.proofs.solve_qlim.Goals.{then-is_some, else-is_some}

pub returns-in_default : goal.returns-in_default
returns-in_default c =
    rw c.settle.ensures
    (sym (rounds-end _ _ _ _ _ _ _ c.steps-e.ensures _ (rw c.in_default.is at c.moves_after.ensures)) ∙ c.loop.invariant.2 ∙ rounds-begin _ _ _ _ c.pin-p.ensures _)

pub loop-preserved : goal.loop-preserved
loop-preserved c = (
  omega arith,
  c.steps-e.auto.w ∙ c.loop.invariant.1,
  sym (rounds-go_on _ _ _ _ _ _ _ c.steps-e.ensures _ (rw c.in-Some.is at c.moves_after.ensures) _ _ c.kinds_after-next.ensures _ c.track_after-t.ensures _ c.pin-p-in-loop.ensures)
      ∙ (rw (fuel 11 _ c.loop-test.true) at c.loop.invariant.2),
)

pub returns : goal.returns
unfolding div of_bits
returns c =
    let e : c.loop.counter ≡ 11 = omega arith in
    rw c.settle-2.ensures
    (sym (rounds-last _ _ _ _ _ _ _ c.steps-e-2.ensures _ c.moves_after-moved.ensures _ (elim c.if-is_some.branch [ then-is_some y ↦ rw (← c.is_some.ensures, y.if-is_some.true) y.residual-is | else-is_some y ↦ rw (← c.is_some.ensures, y.if-is_some.false) y.residual-is ]))
    ∙ (rw e at c.loop.invariant.2) ∙ rounds-begin _ _ _ _ c.pin-p.ensures _)

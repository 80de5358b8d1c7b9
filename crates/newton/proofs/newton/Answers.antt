-- `newton::newton` meets its contract: what is left from here gives what all fifty steps give. Assumes nothing.
use mathlib.Core.Path.{◌≡◌, refl, sym, ◌∙◌}
use native.Mathlib.Omega.{arith}
use Rattle.newton.specs.Newton.Laws.{fuel, newton-begins, steps-none, steps-done, steps-singular, steps-stuck, steps_on}
use Rattle.newton.proofs.newton.Goals as goal

pub loop-it-init : goal.loop-it-init
loop-it-init c = (omega arith, refl, rw c.measure-m.ensures (newton-begins _ _ _))

pub returns-then-m : goal.returns-then-m
returns-then-m c = rw c.at.ensures
    (sym (steps-done _ _ _ _ _ _ _ _ c.if-m.true)
    ∙ (rw (fuel 50 _ c.loop-it-test.true) at c.loop-it.invariant.2))

pub returns-in-Err : goal.returns-in-Err
returns-in-Err c = rw c.at-in-Err.ensures
    (sym (steps-singular _ _ _ _ _ _ _ _ c.if-m.false _ _ (rw c.in-Err.is at c.direction.ensures))
    ∙ (rw (fuel 50 _ c.loop-it-test.true) at c.loop-it.invariant.2))

pub returns-in_default-search : goal.returns-in_default-search
returns-in_default-search c =
    rw c.at-in_default-search.ensures
    (sym (steps-stuck _ _ _ _ _ _ _ _ c.if-m.false _ (rw c.in_default.is at c.direction.ensures) (rw c.in_default-search.is at c.search.ensures))
    ∙ (rw (fuel 50 _ c.loop-it-test.true) at c.loop-it.invariant.2))

pub loop-it-preserved : goal.loop-it-preserved
loop-it-preserved c = (
  omega arith,
  omega arith,
  sym (steps_on _ _ _ _ _ _ _ _ c.if-m.false _ (rw c.in_default.is at c.direction.ensures) _ (rw c.in-Some.is at c.search.ensures))
      ∙ (rw (fuel 50 _ c.loop-it-test.true) at c.loop-it.invariant.2),
)

pub returns : goal.returns
returns c =
    let l = c.loop-it in
    let e : l.it ≡ 50 = omega arith in
    rw c.at-2.ensures (steps-none _ _ _ _ _ _ _ _ c.last_ending.ensures ∙ (rw e at l.invariant.2))

-- `newton::search` meets its contract: what is left gives what all twelve give. Assumes nothing.
use Rattle.std.specs.Prelude.{◌≡◌}
use Rattle.std.proofs.Common.{sym, ◌∙◌, arith, rules}
use Rattle.newton.specs.Newton.Laws.{fuel, tries-hit, tries-miss, tries-none}
use Rattle.newton.proofs.search.Goals as goal

pub loop-init : goal.loop-init
loop-init c = search rules

pub returns-then-is_some : goal.returns-then-is_some
returns-then-is_some c =
    sym (tries-hit _ _ _ _ _ _ _ _ c.attempt-t.ensures (sym c.is_some.ensures ∙ c.if-is_some.true)) ∙ (rw (fuel 12 _ c.loop-test.true) at c.loop.invariant.1)

pub loop-preserved : goal.loop-preserved
loop-preserved c = (
  omega arith,
  sym (tries-miss _ _ _ _ _ _ _ _ c.attempt-t.ensures (sym c.is_some.ensures ∙ c.if-is_some.false)) ∙ (rw (fuel 12 _ c.loop-test.true) at c.loop.invariant.1),
)

pub returns : goal.returns
returns c = let e : c.loop.counter ≡ 12 = omega arith in tries-none _ _ _ _ _ _ ∙ (rw e at c.loop.invariant.1)

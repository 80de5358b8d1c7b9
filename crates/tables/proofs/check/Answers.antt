-- `tables::check` meets its contract: each way out with the checks before it. Assumes nothing.
use Rattle.std.proofs.Common.{sym, ap, ◌∙◌}
use Rattle.network.specs.Checks.Laws.{counted_branches_lem, counted-triplets}
use Rattle.network.specs.Missing.{missing_in}
use Rattle.outcome.specs.Outcome.{bus_refusal}
use Rattle.tables.specs.Tables.Laws.{check-counts, check-room, check-buses}
use Rattle.tables.proofs.check.Goals as goal

pub returns-then-not-counted : goal.returns-then-not-counted
returns-then-not-counted c = check-counts _ _ _ (sym c.counted.ensures ∙ c.if-not-counted.true)

pub returns-then-not-roomy : goal.returns-then-not-roomy
returns-then-not-roomy c =
    check-room _ _ _ (sym c.counted.ensures ∙ c.if-not-counted.false) (sym c.roomy.ensures ∙ c.if-not-roomy.true)

pub missing_bus-requires : goal.missing_bus-requires
missing_bus-requires c =
    let h = sym c.counted.ensures ∙ c.if-not-counted.false in
    ((counted_branches_lem _ h).to, (counted-triplets _ h).col)

pub returns : goal.returns
unfolding missing_in
returns c =
    c.bus_refusal.ensures ∙ ap bus_refusal c.missing_bus.ensures
    ∙ check-buses _ _ _ (sym c.counted.ensures ∙ c.if-not-counted.false) (sym c.roomy.ensures ∙ c.if-not-roomy.false)

-- `branch_tables::check_branches` meets its contract: each way out with the checks before it.
use Rattle.std.specs.Prelude.{◌≡◌}
use Rattle.std.proofs.Common.{ap, ◌∙◌, true}
use Rattle.real.specs.Tests.{both, both_l, both_r}
use Rattle.network.specs.Columns.{branch_network_in}
use Rattle.network.specs.Checks.{counted}
use Rattle.network.specs.Checks.Laws.{counted_branches_lem}
use Rattle.network.specs.Missing.{missing_in}
use Rattle.network.specs.BranchTable.{with_triplets, no_triplets}
use Rattle.network.specs.BranchTable.Laws.{values-sized}
use Rattle.branch_checks.specs.BranchChecks.{counted_branches}
use Rattle.branch_checks.specs.BranchChecks.Laws.{check-counts, check-room, check-rows}
use Rattle.branch_tables.proofs.check_branches.Goals as goal
use Rattle.branch_tables.proofs.check_branches.Goals.{After-counted-2}

-- the tables without triplets are those of the checks
bare : (c : After-counted-2) → c.counted-2.result ≡ counted (with_triplets (branch_network_in c.args.t) no_triplets)
bare c = c.counted-2.ensures ∙ ap counted (c.with_triplets-bare.ensures ∙ ap (with_triplets (branch_network_in c.args.t)) c.none.ensures)

pub returns-then-not-counts : goal.returns-then-not-counts
unfolding both
returns-then-not-counts c = check-counts _ _ _ _ (rw (c.counted.ensures, bare (goal.at.returns-then-not-counts c).After-counted-2) at c.if-not-counts.true)

pub returns-then-not-room : goal.returns-then-not-room
unfolding both
returns-then-not-room c =
    check-room _ _ _ _
    (rw (c.counted.ensures, bare (goal.at.returns-then-not-room c).After-counted-2) at c.if-not-counts.false)
    (rw (c.roomy.ensures, c.lengths.ensures, c.room.ensures) at c.if-not-room.true)

pub check_rows-requires : goal.check_rows-requires
unfolding both
check_rows-requires c =
    let h : counted_branches (branch_network_in c.args.t) ≡ true = rw (c.counted.ensures, bare (goal.at.check_rows-requires c).After-counted-2) at c.if-not-counts.false in
    ((counted_branches_lem _ (both_r _ _ h)).to, (values-sized _ _ (both_l _ _ h)).tap)

pub returns : goal.returns
unfolding both missing_in
returns c =
    c.check_rows.ensures
    ∙ check-rows (branch_network_in c.args.t) _ _ _
    (rw (c.counted.ensures, bare (goal.at.returns c).After-counted-2) at c.if-not-counts.false)
    (rw (c.roomy.ensures, c.lengths.ensures, c.room.ensures) at c.if-not-room.false)

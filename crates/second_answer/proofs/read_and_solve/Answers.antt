-- `second_answer::read_and_solve` meets its contract: a reader's refusal is the answer; of a good text it is the solve of its rows. Assumes nothing.
use Rattle.std.specs.Prelude.{refl}
use Rattle.std.proofs.Common.{sym, subst, ◌∙◌}
use Rattle.std.proofs.lemmas.Result.{err_from_is_err_and}
use Rattle.network.specs.BranchTable.{branch_table_of, branch_network_of, first_branch_rows, RoomForBranches}
use Rattle.outcome.specs.Outcome.{outs_lent}
use Rattle.branch_tables.specs.BranchTables.{solve_branches_of}
use Rattle.second_answer.proofs.Ways.{second-unread, second-few, second-room, second-read}
use Rattle.second_answer.proofs.read_and_solve.Goals as goal

pub returns-in_err-c-clause-answer : goal.returns-in_err-c-clause-answer
returns-in_err-c-clause-answer c =
    let p = err_from_is_err_and c.from_residual.result c.from_residual.ensures.1 in
    rw (p.1, p.2, c.requires) (second-unread _ _ _ c.in_err-c.ensures.read _ refl _ _)

-- the tables that are solved are those that were read
pub first-requires : goal.first-requires
first-requires c =
    subst (RoomForBranches c.in_ok-c.c.rows)
    (sym (λ i. branch_network_of (c.read.ensures i) (c.read-2.ensures i) (c.read-3.ensures i) (branch_table_of (c.read-4.ensures i) (c.read-5.ensures i))))
    (second-room _ _ _ c.in_ok-c.ensures.read _ refl)

pub returns-clause-answer : goal.returns-clause-answer
returns-clause-answer c =
    let rows = c.in_ok-c.c.rows in
    let tables = c.first.ensures
    ∙ (λ i. first_branch_rows rows (branch_network_of (c.read.ensures i) (c.read-2.ensures i) (c.read-3.ensures i) (branch_table_of (c.read-4.ensures i) (c.read-5.ensures i)))) in
    second-read _ _ _ c.in_ok-c.ensures.read _ refl _ _ c.solve-outcome.result _ _ _
    (c.solve-outcome.ensures.answer
    ∙ (λ i. solve_branches_of c.in_ok-c.c.start (tables i) (outs_lent c.args.out.now) (c.requires i) c.args.w.now))

pub returns-clause-few : goal.returns-clause-few
returns-clause-few c = second-few _ _ _ c.in_ok-c.ensures.read _ refl c.solve-outcome.result

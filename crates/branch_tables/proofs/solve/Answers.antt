-- `branch_tables::solve` meets its contract: what the checks tell is what the rest asks for.
use Rattle.std.proofs.Common.{◌∙◌}
use Rattle.std.proofs.lemmas.Result.{err_from_is_err_and}
use Rattle.branch_tables.specs.BranchTables.Laws.{ready-branches, branches-ready, branches-refused}
use Rattle.branch_tables.proofs.solve.Goals as goal

pub returns-in_err-check_branches-clause-answer : goal.returns-in_err-check_branches-clause-answer
returns-in_err-check_branches-clause-answer c =
    let p = err_from_is_err_and c.from_residual.result c.from_residual.ensures.1 in
    rw (p.1, p.2) (branches-refused _ _ _ _ _ _ c.in_err-check_branches.ensures)

pub solve_built-requires : goal.solve_built-requires
solve_built-requires c = ready-branches _ _ _ _ c.in_ok-check_branches.ensures

pub returns-clause-answer : goal.returns-clause-answer
returns-clause-answer c = c.solve_built.ensures.answer ∙ branches-ready _ _ _ _ _ c.in_ok-check_branches.ensures

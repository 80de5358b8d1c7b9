-- `tables::solve` meets its contract: what the checks tell is what the rest asks for. Assumes nothing.
use Rattle.std.proofs.lemmas.Result.{err_from_is_err_and}
use Rattle.network.specs.Checks.Laws.{well-indexed}
use Rattle.outcome.specs.Outcome.Laws.{one-per-bus}
use Rattle.tables.specs.Tables.Laws.{met, solve-ready, solve-refused}
use Rattle.tables.proofs.solve.Goals as goal

pub returns-in_err-check-clause-answer : goal.returns-in_err-check-clause-answer
returns-in_err-check-clause-answer c =
    let p = err_from_is_err_and c.from_residual.result c.from_residual.ensures.1 in
    rw (p.1, p.2) (solve-refused _ _ _ _ _ (rw c.lengths.ensures at c.check.ensures) _ c.in_err-check.was)

pub solve_ready-requires : goal.solve_ready-requires
solve_ready-requires c =
    let m = met _ _ _ (rw c.lengths.ensures at c.in_ok-check.ensures) in
    let room = one-per-bus _ _ _ m.is_roomy in
    (well-indexed _ m.is_counted m.none_missing, room.0, room.1)

pub returns-clause-answer : goal.returns-clause-answer
returns-clause-answer c = solve-ready _ _ _ _ _ (rw c.lengths.ensures at c.check.ensures) c.in_ok-check.was _ c.solve_ready.ensures.answer

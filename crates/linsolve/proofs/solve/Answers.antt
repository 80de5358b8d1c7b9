-- `linsolve::solve` meets its contract: what follows the reduction, by its answer, and then the law that this is 01's rule. Assumes nothing.
use mathlib.Core.Path.{◌∙◌}
use native.Mathlib.Omega.{arith}
use Rattle.std.proofs.lemmas.Result.{err_from_is_err_and}
use Rattle.linsolve.specs.Linear.Laws.{worked-solved, worked-singular}
use Rattle.linsolve.proofs.Whole.{ours-is-the-rules}
use Rattle.linsolve.proofs.solve.Goals as goal

pub returns : goal.returns
returns c =
    let red = rw c.in_ok-reduce_rows.was at c.reduce_rows.ensures in
    rw c.substitute_back.ensures (worked-solved _ _ _ _ red) ∙ ours-is-the-rules _ _ (omega arith)

pub returns-in_err-reduce_rows : goal.returns-in_err-reduce_rows
returns-in_err-reduce_rows c =
    let red = rw c.in_err-reduce_rows.was at c.reduce_rows.ensures in
    let p = err_from_is_err_and c.from_residual.result c.from_residual.ensures.1 in
    rw (p.1, p.2) (worked-singular _ _ _ _ _ red ∙ ours-is-the-rules _ _ (omega arith))

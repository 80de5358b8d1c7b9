-- `network::in_column` meets its contract: the row that the search tells. Assumes nothing.
use Rattle.network.specs.Missing.{in_column}
use Rattle.network.specs.Missing.Laws.{column_found}
use Rattle.network.proofs.in_column.Goals as goal

pub returns-in_err-row : goal.returns-in_err-row
unfolding in_column
returns-in_err-row c = rw (← column_found c.args.n c.args.l.now, ← c.first_missing.ensures, c.in_err-row.was) c.from_residual.ensures

pub returns : goal.returns
unfolding in_column
returns c = rw (← column_found c.args.n c.args.l.now, ← c.first_missing.ensures, c.in_ok-row.was)

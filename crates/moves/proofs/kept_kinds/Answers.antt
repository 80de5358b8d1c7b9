-- `moves::kept_kinds` meets its contract: the buses' kinds, and then slack. Assumes nothing.
use Rattle.layout.specs.declared.BusKind.TheVariants.{Slack}
use Rattle.moves.specs.Moves.{kept_kinds}
use Rattle.moves.proofs.kept_kinds.Goals as goal

pub returns : goal.returns
unfolding kept_kinds
returns c = c.column.ensures Slack

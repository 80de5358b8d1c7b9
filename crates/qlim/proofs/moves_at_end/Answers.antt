-- `qlim::moves_at_end` meets its contract: without a generator no bus moves. Assumes nothing.
use mathlib.Core.Path.{sym, ◌∙◌}
use Rattle.moves.specs.Moves.Laws.{no_move}
use Rattle.qlim.proofs.moves_at_end.Goals as goal

pub returns-then-not-any_generator : goal.returns-then-not-any_generator
returns-then-not-any_generator c = no_move _ _ _ _ _ _ _ _ (sym c.any_generator.ensures ∙ c.if-not-any_generator.true)

-- `vectors::double_at` meets its contract, by those of its calls. Assumes nothing.
use mathlib.Core.Path.{ap, ◌∙◌}
use lib.Ieee.{binary64, of_bits}
use Rattle.vectors.proofs.double_at.Goals as goal

pub returns : goal.returns
returns c = c.double.ensures ∙ ap (of_bits binary64) c.word.ensures

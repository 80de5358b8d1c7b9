-- `text_vectors::refused` meets its contract: the number is compared, and the place of all but refusal 9. Assumes nothing.
use Rattle.text_vectors.proofs.Papers.{refusal-told}
use Rattle.text_vectors.proofs.refused.Goals as goal

pub returns : goal.returns
returns c = rw (c.pair.ensures.0, c.pair-2.ensures.0) (refusal-told _ _ _ _ _ c.requires)

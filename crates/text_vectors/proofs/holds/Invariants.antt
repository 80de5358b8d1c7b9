-- `text_vectors::holds` meets its contract. The invariant: every place passed holds what is told. Assumes nothing.
use Rattle.std.proofs.Common.{◌≡◌, ℕ, ◌<◌, get_or}
use Rattle.text_vectors.specs.Told.{word_told}
use Rattle.text_vectors.proofs.holds.Given as goal

abbrev pub invariant-loop-i : goal.invariant-loop-i
invariant-loop-i g l = (k : ℕ) → k < l.i → get_or l.col k (g.T.Cell.said 0) ≡ g.T.Cell.said (word_told l.s l.j k)

-- `moves::letters` meets its contract: the buses passed have their letters. Assumes nothing.
use lib.ListN.{replicate}
use Rattle.layout.specs.Table.Laws.{Stored}
use Rattle.layout.specs.Layout.{kind_of}
use Rattle.layout.specs.Kinds.{kind_letter}
use Rattle.moves.proofs.letters.Given as goal

abbrev pub invariant-loop-b : goal.invariant-loop-b
invariant-loop-b l = Stored (λ i. kind_letter (kind_of l.kinds i)) (replicate 32 0) l.n l.b l.ls

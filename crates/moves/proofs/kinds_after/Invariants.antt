-- `moves::kinds_after` meets its contract: the buses passed have their new kinds. Assumes nothing.
use lib.ListN.{get_or}
use Rattle.layout.specs.Layout.{kind_of}
use Rattle.layout.specs.Table.Laws.{Stored}
use Rattle.moves.specs.declared.Move.TheVariants.{Keep}
use Rattle.moves.specs.Moves.{kind_after}
use Rattle.moves.proofs.kinds_after.Given as goal

abbrev pub invariant-loop-b : goal.invariant-loop-b
invariant-loop-b l = Stored (λ i. kind_after (get_or l.ms i Keep) (kind_of l.kinds i)) l.kinds l.n l.b l.next

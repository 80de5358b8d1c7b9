-- `moves::pin` meets its contract: the buses passed are pinned. Assumes nothing.
use Rattle.layout.specs.Table.Laws.{Counted}
use Rattle.moves.specs.Moves.{pin_to}
use Rattle.moves.proofs.pin.Given as goal

abbrev pub invariant-loop-b : goal.invariant-loop-b
invariant-loop-b l = Counted (λ i. pin_to i l.kinds l.vm_hold l.p) l.n l.b l.t

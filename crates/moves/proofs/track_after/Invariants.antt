-- `moves::track_after` meets its contract: the buses passed are tracked on. Assumes nothing.
use Rattle.layout.specs.Table.Laws.{Counted}
use Rattle.moves.specs.Moves.{track_to}
use Rattle.moves.proofs.track_after.Given as goal

abbrev pub invariant-loop-b : goal.invariant-loop-b
invariant-loop-b l = Counted (λ i. track_to i l.t l.limits l.qg l.ms) l.n l.b l.next

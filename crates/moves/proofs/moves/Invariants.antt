-- `moves::moves` meets its contract: the buses passed have their moves. Assumes nothing.
use lib.ListN.{replicate}
use Rattle.layout.specs.Table.Laws.{Stored}
use Rattle.moves.specs.declared.Move.TheVariants.{Keep}
use Rattle.moves.specs.Moves.{move_at}
use Rattle.moves.proofs.moves.Given as goal

abbrev pub invariant-loop-b : goal.invariant-loop-b
invariant-loop-b l = Stored (move_at l.kinds l.limits l.t l.qd l.q_calc l.vm l.vm_hold) (replicate 32 Keep) l.n l.b l.ms

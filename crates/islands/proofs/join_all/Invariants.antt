-- `islands::join_all` meets its contract. The invariant: the roots are the groups of the lines passed. Assumes nothing.
use Prim.Native.Nat.{ℕ}
use Rattle.islands.specs.Forest.{Forest}
use Rattle.islands.specs.Islands.{group_of}
use Rattle.islands.proofs.join_all.Given as goal

abbrev pub invariant-loop-k : goal.invariant-loop-k
invariant-loop-k l = (rank : ℕ → ℕ) × Forest rank (group_of l.k l.br_from l.br_to) l.parent

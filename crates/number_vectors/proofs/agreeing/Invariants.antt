-- `number_vectors::agreeing` meets its contract: the vectors passed agree. Assumes nothing.
use Prim.Native.Nat.{ℕ, ◌*◌, ◌<◌}
use Rattle.number_vectors.specs.Vectors.{Holds}
use Rattle.number_vectors.proofs.agreeing.Given as goal

abbrev pub invariant-loop-i : goal.invariant-loop-i
invariant-loop-i l = (k : ℕ) → k < l.i → Holds l.s (k * 32)

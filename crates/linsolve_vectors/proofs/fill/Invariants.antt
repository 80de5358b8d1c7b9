-- `linsolve_vectors::fill` meets its contract. The invariant: every place passed holds what is told. Assumes nothing.
use mathlib.Core.Path.{◌≡◌}
use Prim.Native.Nat.{ℕ, ◌<◌}
use lib.ListN.{length}
use Rattle.linsolve.specs.Linear.{at}
use Rattle.linsolve_vectors.specs.Told.{told_of}
use Rattle.linsolve_vectors.proofs.fill.Given as goal

abbrev pub invariant-loop-i : goal.invariant-loop-i
invariant-loop-i l = (length l.w ≡ 4224) × ((k : ℕ) → k < l.i → at l.w k ≡ told_of l.s 0 l.dim k)

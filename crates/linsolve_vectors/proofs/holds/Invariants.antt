-- `linsolve_vectors::holds` meets its contract. The invariant: every place passed holds what is told. Assumes nothing.
use mathlib.Core.Path.{◌≡◌}
use Prim.Native.Nat.{ℕ, ◌≤◌, ◌<◌}
use Rattle.linsolve.specs.Linear.{at}
use Rattle.linsolve_vectors.specs.Told.{told_of}
use Rattle.linsolve_vectors.proofs.holds.Given as goal

abbrev pub invariant-loop-i : goal.invariant-loop-i
invariant-loop-i l = (l.i ≤ 4224) × ((k : ℕ) → k < l.i → at l.w k ≡ told_of l.s l.from l.dim k)

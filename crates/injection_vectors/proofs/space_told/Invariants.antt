-- `injection_vectors::space_told` meets its contract: every place passed holds what is told. Assumes nothing.
use Prim.Native.Nat.{ℕ, ◌≤◌, ◌<◌}
use mathlib.Core.Path.{◌≡◌}
use lib.ListN.{get_or}
use lib.Ieee.{nan}
use Rattle.injection_vectors.specs.Told.{place_told}
use Rattle.injection_vectors.proofs.space_told.Given as goal

abbrev pub invariant-loop-i : goal.invariant-loop-i
invariant-loop-i l = (l.i ≤ 4224) × ((j : ℕ) → j < l.i → get_or l.w j nan ≡ place_told l.s l.from l.dim j)

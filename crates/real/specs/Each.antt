-- The list of the n values f 0, f 1, ..
pub mod Laws
use Rattle.std.specs.Prelude.{ℕ, zero, suc, List, [], ◌∷◌, ◌++◌}

unfoldable pub each : {A : Type 0} → ℕ → (ℕ → A) → List A
each zero f = []
each (suc k) f = each k f ++ (f k ∷ [])

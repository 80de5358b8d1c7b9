-- Whether any of the numbers below a bound passes a test.
pub mod Laws
use Rattle.std.specs.Prelude.{ℕ, zero, suc, Bool, false, ◌||◌}

unfoldable pub any_below : ℕ → (ℕ → Bool) → Bool
any_below zero t = false
any_below (suc k) t = any_below k t || t k

-- The lowest of the numbers below a bound that passes a test.
pub mod Laws
use Rattle.std.specs.Prelude.{ℕ, zero, suc, Bool, cond, Option, Some, None}

-- the one found, or else the next
abbrev pub earlier : Option ℕ → Option ℕ → Option ℕ
earlier (Some i) next = Some i
earlier None next = next

-- i where it passes
abbrev pub if_at : Bool → ℕ → Option ℕ
if_at passes i = cond passes (Some i) None

-- the lowest number below k that passes
unfoldable pub first_below : ℕ → (ℕ → Bool) → Option ℕ
first_below zero t = None
first_below (suc k) t = earlier (first_below k t) (if_at (t k) k)

-- Words and doubles in a list of bytes, the highest byte first; and what the answer of a test says.
pub mod Laws
use Rattle.std.specs.Prelude.{◌≡◌, Bool, true, ℕ, ◌+◌, ◌*◌, List, get_or, Float, Option, IfSome}
use Rattle.std.specs.Float.{binary64}
use Rattle.std.specs.Float.Ieee.{of_bits}

abbrev pub pair_of : ℕ → List ℕ → ℕ
pair_of at s = get_or s at 0 * 256 + get_or s (at + 1) 0

unfoldable pub word_of : ℕ → List ℕ → ℕ
word_of at s = ((pair_of at s * 65536 + pair_of (at + 2) s) * 65536 + pair_of (at + 4) s) * 65536 + pair_of (at + 6) s

abbrev pub double_at : ℕ → List ℕ → Float
double_at at s = of_bits binary64 (word_of at s)

-- b is true exactly where P holds
abbrev pub Tells : Bool → Type 0 → Type 0
Tells b P = (b ≡ true → P) × (P → b ≡ true)

-- what a turn over the input answers: whether a whole record agrees
abbrev pub Found : Option Bool → Type 0 → Type 0
Found r P = IfSome r (λ b. Tells b P)

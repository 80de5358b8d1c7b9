-- The decimal that a field writes, as a person reads it: its sign, and its digits as a whole number over a power of ten. Decimal/Laws.antt shows that the value
-- read is the double nearest to it.
pub mod Laws
use Rattle.std.specs.Prelude.{ℕ, ◌^◌, Bool, false, cond, List, [], ◌∷◌, eqb, length}
use Rattle.fields.specs.Cut.{upto, past}
use Rattle.fields.specs.Digits.{number}

-- whether it begins with `-`, and what follows that
abbrev pub has_minus : List ℕ → Bool
has_minus [] = false
has_minus (b ∷ r) = eqb b 45

abbrev pub bare : List ℕ → List ℕ
bare [] = []
bare (b ∷ r) = cond (eqb b 45) r (b ∷ r)

-- the digits before the point and behind it: `0000000.0250000000` is 0250000000 over 10^10
abbrev pub wholes : List ℕ → List ℕ
wholes l = upto 46 (bare l)

abbrev pub decimals : List ℕ → List ℕ
decimals l = past 46 (bare l)

abbrev pub numerator : List ℕ → ℕ
numerator l = number (number 0 (wholes l)) (decimals l)

abbrev pub denominator : List ℕ → ℕ
denominator l = 10 ^ length (decimals l)

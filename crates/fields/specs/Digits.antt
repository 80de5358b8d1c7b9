-- Digits as a whole number, for every length; which of them count; and 01's bus number.
pub mod Laws
use Rattle.std.specs.Prelude.{ℕ, ◌+◌, ◌-◌, ◌*◌, ◌^◌, Bool, true, cond, ◌&&◌, ◌||◌, not, List, [], ◌∷◌, eqb, leb, ltb, length, None, Option, Some, unwrap_or}
use Rattle.fields.specs.Cut.{empty}

-- `0` to `9`
abbrev pub digit : ℕ → Bool
digit b = leb 48 b && leb b 57

unfoldable pub digits : List ℕ → Bool
digits [] = true
digits (b ∷ r) = digit b && digits r

-- "the digits as a whole number", after those that gave m
unfoldable pub number : ℕ → List ℕ → ℕ
number m [] = m
number m (b ∷ r) = number (m * 10 + (b - 48)) r

-- 02, Ask 2: "Count digits from the first one that isn't zero, trailing zeros included; all-zero numbers count none."
unfoldable pub counted : List ℕ → List ℕ
counted [] = []
counted (b ∷ r) = cond (eqb b 48) (counted r) (b ∷ r)

-- digits alone, as a number, after those that gave m
abbrev pub digits_of : ℕ → List ℕ → Option ℕ
digits_of m l = cond (digits l) (Some (number m l)) None

-- the same where the number stays below 10^15, which is where no more than 15 digits count (`count-limit`)
abbrev pub limited_of : ℕ → List ℕ → Option ℕ
limited_of m l = cond (digits l && ltb (number m l) (10 ^ 15)) (Some (number m l)) None

-- "1 to 3 digits with no leading zero, except `0` itself"
abbrev pub bus_of : List ℕ → Option ℕ
bus_of [] = None
bus_of (b ∷ r) = cond (leb (length r) 2 && (not (eqb b 48) || empty r)) (digits_of 0 (b ∷ r)) None

-- the number of a good field; what stands for a wrong one is never handed out
abbrev pub number_in : Option ℕ → ℕ
number_in r = unwrap_or r 0

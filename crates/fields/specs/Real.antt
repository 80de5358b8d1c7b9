-- 01's real, "an optional `-`, one or more digits, and optionally `.` with one or more digits", its digits counted as 02 says; and `?` for NaN.
pub mod Laws
use Rattle.std.specs.Prelude.{ℕ, ◌^◌, Bool, cond, ◌&&◌, not, List, [], ◌∷◌, ◌++◌, eqb, leb, length, Float, None, Option, Some, option_map, unwrap_or}
use Rattle.std.specs.Float.{nan, binary64}
use Rattle.std.specs.Float.Ieee.{div, neg}
use Rattle.real.specs.Literals.{double, nought}
use Rattle.fields.specs.Cut.{upto, past, has, empty, only}
use Rattle.fields.specs.Digits.{digits, number, counted}

-- a digit rule: whether the digits before the point and those behind it are few enough
abbrev pub DigitRule : Type 0
DigitRule = List ℕ → List ℕ → Bool

-- 02, Ask 2: "5 is given when more than 15 counted digits or more than 22 decimals stand"
unfoldable pub allowed : DigitRule
allowed w d = leb (length (counted (w ++ d))) 15 && leb (length d) 22

-- "the digits as a whole number divided once by the power of ten of its decimals"
abbrev pub value_of : List ℕ → List ℕ → Float
value_of w d = div binary64 (double (number (number 0 w) d)) (double (10 ^ length d))

-- "then negated under a minus"
abbrev pub negated_of : Option Float → Option Float
negated_of = option_map neg

-- ---- a field, by any digit rule

module _ (rule : DigitRule) where
  -- w before the point, "one or more digits", and d behind it
  unfoldable pub amount_by : List ℕ → List ℕ → Option Float
  amount_by w d = cond (not (empty w) && (digits w && (digits d && rule w d))) (Some (value_of w d)) None

  -- with a point; behind it stand "one or more digits"
  abbrev pub pointed_by : List ℕ → Option Float
  pointed_by l = cond (empty (past 46 l)) None (amount_by (upto 46 l) (past 46 l))

  abbrev pub unsigned_by : List ℕ → Option Float
  unsigned_by l = cond (has 46 l) (pointed_by l) (amount_by l [])

  abbrev pub real_by : List ℕ → Option Float
  real_by [] = None
  real_by (b ∷ r) = cond (eqb b 45) (negated_of (unsigned_by r)) (unsigned_by (b ∷ r))

  -- "`?` stands for NaN"
  abbrev pub or_nan_by : List ℕ → Option Float
  or_nan_by l = cond (only 63 l) (Some nan) (real_by l)

-- ---- by 02's digit rule

abbrev pub amount_of : List ℕ → List ℕ → Option Float
amount_of = amount_by allowed

abbrev pub unsigned_of : List ℕ → Option Float
unsigned_of = unsigned_by allowed

abbrev pub real_of : List ℕ → Option Float
real_of = real_by allowed

abbrev pub or_nan_of : List ℕ → Option Float
or_nan_of = or_nan_by allowed

-- the value of a good field; what stands for a wrong one is never handed out
abbrev pub real_in : Option Float → Float
real_in r = unwrap_or r nought

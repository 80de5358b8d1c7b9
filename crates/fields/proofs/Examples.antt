-- Fields of 01's examples, by computation. Assumes nothing.
use Rattle.std.specs.Prelude.{None, Some}
use mathlib.Core.Path.{◌≡◌, refl}
use mathlib.Core.Bool.{false}
use mathlib.Core.List.{List, [], ◌∷◌}
use Prim.Native.Nat.{ℕ}
use lib.Ieee.{binary64, of_bits, div, neg, of_int, round}
use Rattle.fields.specs.Cut.{upto, past, has}
use Rattle.fields.specs.Digits.{digits, number, counted, bus_of}
use Rattle.fields.specs.Real.{allowed, amount_by, real_by, real_of}
use Rattle.fields.specs.Before.{allowed_before}

-- `-0` is 8000000000000000
pub minus-zero : real_of (45 ∷ 48 ∷ []) ≡ Some (of_bits binary64 0x8000000000000000)
unfolding of_bits div neg of_int upto past has digits number counted allowed amount_by
minus-zero = refl

-- `-0.25` is bfd0000000000000
pub minus-quarter : real_of (45 ∷ 48 ∷ 46 ∷ 50 ∷ 53 ∷ []) ≡ Some (of_bits binary64 0xbfd0000000000000)
unfolding of_bits div neg of_int upto past has digits number counted allowed amount_by
minus-quarter = refl

-- `1.` is no real, and so refused 5 where it stands in a line
pub point-last : real_of (49 ∷ 46 ∷ []) ≡ None
unfolding past has
point-last = refl

-- `.5`, `-`, `1.2.3`
pub point-first : real_of (46 ∷ 53 ∷ []) ≡ None
unfolding upto past has amount_by
point-first = refl

pub minus-alone : real_of (45 ∷ []) ≡ None
unfolding has amount_by
minus-alone = refl

pub two-points : real_of (49 ∷ 46 ∷ 50 ∷ 46 ∷ 51 ∷ []) ≡ None
unfolding upto past has digits amount_by
two-points = refl

-- 02's `0000000.0250000000` is 0.025 and was refused; it counts 9 digits, and 17 by 01's rule
abbrev pub padded : List ℕ
padded = 48 ∷ 48 ∷ 48 ∷ 48 ∷ 48 ∷ 48 ∷ 48 ∷ 46 ∷ 48 ∷ 50 ∷ 53 ∷ 48 ∷ 48 ∷ 48 ∷ 48 ∷ 48 ∷ 48 ∷ 48 ∷ []

pub padded-read : real_of padded ≡ Some (round binary64 false 25 1000)
unfolding div of_int round upto past has digits number counted allowed amount_by
padded-read = refl

pub padded-before : real_by allowed_before padded ≡ None
unfolding upto past has digits allowed_before amount_by
padded-before = refl

-- `0`, `00` and `31` as bus numbers
pub bus-0 : bus_of (48 ∷ []) ≡ Some 0
unfolding digits number
bus-0 = refl

pub bus-00 : bus_of (48 ∷ 48 ∷ []) ≡ None
bus-00 = refl

-- and `07`: bus numbers keep 01's rule
pub bus-07 : bus_of (48 ∷ 55 ∷ []) ≡ None
bus-07 = refl

pub bus-31 : bus_of (51 ∷ 49 ∷ []) ≡ Some 31
unfolding digits number
bus-31 = refl

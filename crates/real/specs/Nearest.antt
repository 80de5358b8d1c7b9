-- "The double nearest to a decimal, ties to even": what that means, of a double x and a fraction a / b with a sign (minus where s is true).
pub mod Laws
pub mod One
use Rattle.std.specs.Prelude.{◌≡◌, Bool, false, cond, ℕ, ◌+◌, ◌-◌, ◌*◌, ◌%◌, ◌≤◌, T, Float}
use Rattle.std.specs.Bool.{beq}
use Rattle.std.specs.Float.{nan, inf, fin, binary64}
use Rattle.std.specs.Float.Ieee.{fits, to_bits}
use Rattle.std.specs.Float.Ieee.Positive.{num, den}

-- a double that is neither a NaN nor an infinity
abbrev pub Finite : Float → Type 0
Finite nan = ⊥
Finite (inf s) = ⊥
Finite (fin s m e) = T (fits binary64 (fin s m e))

-- its sign; its size is the fraction num x / den x
abbrev pub negative : Float → Bool
negative nan = false
negative (inf s) = s
negative (fin s m e) = s

-- how far p lies from q, each with its sign
abbrev pub apart : Bool → ℕ → Bool → ℕ → ℕ
apart s p t q = cond (beq s t) ((p - q) + (q - p)) (p + q)

-- how far x lies from a / b, times b and times den x
abbrev pub distance : Float → Bool → ℕ → ℕ → ℕ
distance x s a b = apart (negative x) (num x * b) s (a * den x)

-- no double is nearer to a / b than x; where another is as near, x is the one whose last bit is 0; and x has the fraction's sign, a zero's too
pub record NearestDouble (x : Float) (s : Bool) (a b : ℕ) : Type 0 where
  pub finite : Finite x
  pub sign : negative x ≡ s
  pub near : (y : Float) → Finite y → distance x s a b * den y ≤ distance y s a b * den x
  pub even : (y : Float) → Finite y → distance y s a b * den x ≡ distance x s a b * den y → (x ≡ y → ⊥) → to_bits binary64 x % 2 ≡ 0

-- 01, "Sine and cosine": IEEE 754 doubles, one rounding per operation, in the order written.
use Rattle.std.specs.Prelude.{ℕ, zero, suc, ◌-◌, ◌*◌, ◌/◌, ◌%◌, Bool, true, false, cond, ◌||◌, List, [], ◌∷◌, ℤ, pos, negsuc, ◌+ℤ◌, ◌*ℤ◌, neg_ℤ, ◌≤ℤ◌, ◌<ℤ◌, from_bits, is_nan, Float}
use Rattle.std.proofs.Math.IntN.{suc_ℤ}
use Rattle.std.specs.Float.{nan, inf, fin, binary64}
use Rattle.std.specs.Float.Ieee.{up, down, add, sub, mul, div, neg, lt, of_int}
use Rattle.real.specs.Literals.{double}
use Rattle.real.specs.Real.{absolute}
use Rattle.trig.specs.declared.SinCos.{SinCos}

-- ---- coefficients and sums

unfoldable pub factorial : ℕ → ℕ
factorial zero = 1
factorial (suc n) = suc n * factorial n

-- 1.0 divided once by n!, signed
unfoldable pub coefficient : Bool → ℕ → Float
unfolding factorial
coefficient false n = div binary64 (double 1) (double (factorial n))
coefficient true n = neg (div binary64 (double 1) (double (factorial n)))

-- start with the highest, then repeatedly lower + z * sum
unfoldable pub horner : Float → List Float → Float
horner z [] = nan
horner z (c ∷ []) = c
horner z (c ∷ (d ∷ cs)) = add binary64 c (mul binary64 z (horner z (d ∷ cs)))

-- n = 3, 5, .. 15, minus first, alternating
unfoldable pub sine_coefficients : List Float
unfolding coefficient
sine_coefficients =
    coefficient true 3 ∷ coefficient false 5 ∷ coefficient true 7 ∷ coefficient false 9 ∷ coefficient true 11 ∷ coefficient false 13 ∷ coefficient true 15 ∷ []

-- n = 2, 4, .. 16, minus first, alternating
unfoldable pub cosine_coefficients : List Float
unfolding coefficient
cosine_coefficients =
    coefficient true 2 ∷ coefficient false 4 ∷ coefficient true 6 ∷ coefficient false 8 ∷ coefficient true 10 ∷ coefficient false 12 ∷ coefficient true 14 ∷ coefficient false 16 ∷ []

-- ---- k, the whole number with k - 0.5 <= t < k + 0.5, by exact arithmetic on t = ±m * 2 ^ e, which is the fraction ±m * up e / down e

-- z / d, rounded down to a whole number
unfoldable pub floor_over : ℤ → ℕ → ℤ
floor_over (pos n) d = pos (n / d)
floor_over (negsuc n) d = negsuc (n / d)

abbrev pub signed : Bool → ℕ → ℤ
signed false n = pos n
signed true n = neg_ℤ (pos n)

-- t + 1/2, over twice t's own denominator, rounded down
unfoldable pub whole_of : Float → ℤ
unfolding floor_over
whole_of nan = pos 0
whole_of (inf s) = pos 0
whole_of (fin s m e) = floor_over (signed s (2 * (m * up e)) +ℤ pos (down e)) (2 * down e)

-- the rule for k as two facts of the fraction ±a / c: k <= ±a / c + 1/2 < k + 1, each side times 2 * c. proofs/Floor.antt shows that whole_of has them, and that no other number does
pub record Nearest (s : Bool) (a c : ℕ) (k : ℤ) : Type 0 where
  pub low : (pos (2 * c) *ℤ k) ≤ℤ (signed s (2 * a) +ℤ pos c)
  pub high : (signed s (2 * a) +ℤ pos c) <ℤ (pos (2 * c) *ℤ suc_ℤ k)

-- k modulo 4, as 0, 1, 2, 3: -(n + 1) is 3 - n modulo 4
unfoldable pub quarter_of : ℤ → ℕ
quarter_of (pos n) = n % 4
quarter_of (negsuc n) = 3 - n % 4

-- ---- the pair

unfoldable pub pair : Float → Float → SinCos
pair s c = record { sin = s; cos = c }

-- (s, c), (c, -s), (-s, -c), (-c, s)
unfoldable pub turned : ℕ → Float → Float → SinCos
unfolding pair
turned zero s c = pair s c
turned (suc zero) s c = pair c (neg s)
turned (suc (suc zero)) s c = pair (neg s) (neg c)
turned (suc (suc (suc q))) s c = pair (neg c) s

-- r + (r * z) * sum
unfoldable pub sine_of : Float → Float
unfolding horner sine_coefficients
sine_of r =
    let z = mul binary64 r r in
    add binary64 r (mul binary64 (mul binary64 r z) (horner z sine_coefficients))

-- 1.0 + z * sum
unfoldable pub cosine_of : Float → Float
unfolding horner cosine_coefficients
cosine_of r =
    let z = mul binary64 r r in
    add binary64 (double 1) (mul binary64 z (horner z cosine_coefficients))

-- (x - k * 3FF921FB54400000) - k * 3DD0B4611A626331
unfoldable pub reduced : Float → ℤ → Float
reduced x k =
    let f = of_int binary64 k in
    sub binary64 (sub binary64 x (mul binary64 f (from_bits binary64 0x3FF9_21FB_5440_0000))) (mul binary64 f (from_bits binary64 0x3DD0_B461_1A62_6331))

-- |x| > 1024, or x is NaN: both are NaN
unfoldable pub outside : Float → Bool
unfolding absolute
outside x = is_nan x || lt (double 1024) (absolute x)

-- k, of t = x times 3FE45F306DC9C883
unfoldable pub turns_of : Float → ℤ
unfolding whole_of
turns_of x = whole_of (mul binary64 x (from_bits binary64 0x3FE4_5F30_6DC9_C883))

unfoldable pub sin_cos_of : Float → SinCos
unfolding outside turns_of quarter_of turned reduced sine_of cosine_of
sin_cos_of x =
    let k = turns_of x in
    let r = reduced x k in
    cond (outside x) (pair nan nan) (turned (quarter_of k) (sine_of r) (cosine_of r))

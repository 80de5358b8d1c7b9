-- Powers of ten as doubles: up to 10^22 each is a double, so up to the 22nd each product by ten is exact. Assumes nothing.
use Rattle.std.specs.Prelude.{◌≡◌, refl, false, ℕ, zero, suc, ◌+◌, ◌*◌, ◌^◌, ◌≤◌, ◌<◌, eqb}
use Rattle.std.proofs.Common.{sym, ap, ◌∙◌, true≢false, lt_of_le_of_lt, lt_of_lt_of_le, mul-one, mul_assoc, mul_comm, mul_left_comm, arith, lit<, lit≤, pow-add, pow_mono, shl_lt}
use Rattle.std.proofs.Math.Nat.{pow-succ', pow-le-pow_right, one-le-pow}
use Rattle.std.specs.Float.{Format, binary64}
use Rattle.std.specs.Float.Ieee.{prec, emax, low, round, mul, of_int, of_bits}
use Rattle.std.specs.Float.Ieee.Exact.{HasValue, round_exact}
use Rattle.std.specs.Float.Ieee.Positive.{mul_at, positive_of_value}
use Rattle.real.specs.Literals.{lit, double, one}
use Rattle.fields.specs.Powers.{product}

-- ---- the powers

five-two : (k : ℕ) → 10 ^ k ≡ 5 ^ k * 2 ^ k
five-two zero = refl
five-two (suc k) =
    let a = pow-succ' 10 k in
    let b = pow-succ' 5 k in
    let c = pow-succ' 2 k in
    let d : 5 * 5 ^ k * (2 * 2 ^ k) ≡ 5 * (2 * (5 ^ k * 2 ^ k)) = simp (mul_assoc, mul_comm, mul_left_comm) in
    let e : 5 * (2 * (5 ^ k * 2 ^ k)) ≡ 10 * (5 ^ k * 2 ^ k) = omega arith in
    a ∙ ap (λ (x : ℕ). 10 * x) (five-two k) ∙ sym (d ∙ e) ∙ sym (ap (λ (x : ℕ). x * 2 ^ suc k) b ∙ ap (λ (x : ℕ). 5 * 5 ^ k * x) c)

-- up to 10^22 each is a double: 5^22 has no more than 53 binary digits
pub power-exact : (k : ℕ) → k ≤ 22 → HasValue (double (10 ^ k)) false (10 ^ k) 1
unfolding of_int
power-exact k h = scaled binary64 refl refl
  where
    scaled : (f : Format) → prec f ≡ 53 → emax f ≡ 1023 → HasValue (round f false (10 ^ k) 1) false (10 ^ k) 1
    scaled f p e =
        let q : 5 ^ k < 2 ^ prec f = rw p (lt_of_le_of_lt (pow-le-pow_right (lit< tt) h) (lit< tt)) in
        let j = k + low f in
        let v : 10 ^ k * 2 ^ low f ≡ 5 ^ k * 2 ^ j * 1 =
        ap (λ (x : ℕ). x * 2 ^ low f) (five-two k) ∙ mul_assoc (5 ^ k) (2 ^ k) (2 ^ low f) ∙ ap (λ (x : ℕ). 5 ^ k * x) (sym (pow-add 2 k (low f))) ∙ sym (mul-one (5 ^ k * 2 ^ j)) in
        let r : prec f + j ≤ low f + suc (emax f) = omega (arith, p, e, h) in
        round_exact f false (10 ^ k) 1 (5 ^ k) j (lit< tt) q (lt_of_lt_of_le (shl_lt (prec f) j q) (pow_mono r)) v

-- and 10^23 is none, so 22 is the most
pub power-inexact : HasValue (double (10 ^ 23)) false (10 ^ 23) 1 → ⊥
unfolding of_int round
power-inexact h = true≢false (sym (ap (λ (n : ℕ). eqb n (10 ^ 23)) h.1))

-- ---- the products

-- ten times a power is the next power, rounded once
power-next : (k : ℕ) → k ≤ 22 → mul binary64 (double (10 ^ k)) (double 10) ≡ double (10 ^ suc k)
unfolding of_int
power-next k h =
    let p = power-exact k h in
    let q = power-exact 1 (lit≤ tt) in
    let u = positive_of_value (double (10 ^ k)) (10 ^ k) 1 p (one-le-pow k 10 (lit< tt)) in
    let v = positive_of_value (double 10) 10 1 q (lit< tt) in
    mul_at binary64 (double (10 ^ k)) (double 10) (10 ^ k) 1 10 1 u v (lit< tt) (lit< tt) p q
    ∙ ap (λ (n : ℕ). round binary64 false n 1) (mul_comm (10 ^ k) 10 ∙ sym (pow-succ' 10 k))

-- so the k-th product is 10^k, rounded once
pub product-double : (k : ℕ) → k ≤ 23 → product k ≡ double (10 ^ k)
unfolding product
product-double zero h = refl
product-double (suc k) h = rw (product-double k (omega arith)) (power-next k (omega arith))

-- which up to the 22nd is 10^k itself: no multiplication loses anything
pub product-exact : (k : ℕ) → k ≤ 22 → HasValue (product k) false (10 ^ k) 1
product-exact k h = rw (product-double k (omega arith)) (power-exact k h)

-- and the 23rd is not
pub product-inexact : HasValue (product 23) false (10 ^ 23) 1 → ⊥
product-inexact h = power-inexact (rw (product-double 23 (lit≤ tt)) at h)

-- by the literals 1.0 and 10.0: no multiplication yet, and one more
pub product-first : one ≡ product 0
unfolding product of_bits of_int
product-first = refl

pub product-next : (k : ℕ) → mul binary64 (product k) (lit 0x4024_0000_0000_0000) ≡ product (suc k)
unfolding product of_bits of_int
product-next k = refl

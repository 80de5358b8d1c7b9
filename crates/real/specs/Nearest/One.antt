-- `NearestDouble` names one double. Two would lie on either side of a / b, equally far, each with a last bit 0, so another double lies between them, and is nearer.
-- Units are those of `Laws`. Assumes nothing.
use Rattle.std.specs.Prelude.{◌≡◌, Bool, true, false, ℕ, suc, ◌-◌, ◌*◌, ◌/◌, ◌%◌, ◌^◌, ◌≤◌, ◌<◌, ℤ, T, Float}
use Rattle.std.proofs.Common.{sym, ap, ◌∙◌, subst, inl, inr, le_of_eq, le_antisymm, lt_trans, lt_irrefl, lt_of_le_of_lt, lt_of_lt_of_le, lt-suc_self, eq-or-lt_of_le, mul_comm, mul_right_comm, mul-lt-mul_of_pos_right, lt_of_mul-lt-mul_right, le_of_mul-le-mul_right, mul-div_cancel, arith, pow-add, pow_pos}
use Rattle.std.proofs.Math.Nat.{eq_of_mul-eq-mul_right}
use Rattle.std.proofs.Math.Pow.{pow-lt}
use Rattle.std.specs.Float.{nan, inf, fin, Format, binary64}
use Rattle.std.specs.Float.Ieee.{prec, emax, low, up, down, size, odd, fits, to_bits}
use Rattle.std.specs.Float.Ieee.Digits.{size-lt, size-le}
use Rattle.std.specs.Float.Ieee.Fits.{kept-lt, down_pos, odd-fits}
use Rattle.std.specs.Float.Ieee.Exact.{HasValue, odd_sign}
use Rattle.std.specs.Float.Ieee.Order.{transfer}
use Rattle.std.specs.Float.Ieee.Scale.{overflow}
use Rattle.std.specs.Float.Ieee.Positive.{den, den_pos}
use Rattle.real.specs.Tests.{below_or}
use Rattle.real.specs.Nearest.{Finite, negative, apart, distance, NearestDouble}
use Rattle.real.specs.Nearest.Laws.{shifted, in-units, distance-units, same-value, times-even, last_bit, drops-zeros}

-- ---- a value in units

-- the weight of the last digit of w that is kept, where p digits are
abbrev step : ℕ → ℕ → ℕ
step p w = 2 ^ (size w - p)

-- the format holds x, which has the sign s and is w units; of these only zeros are dropped, and w is no overflow
record Units (f : Format) (x : Float) (s : Bool) (w : ℕ) : Type 0 where
  held : T (fits f x)
  value : HasValue x s w (2 ^ low f)
  whole : w ≡ w / step (prec f) w * step (prec f) w
  under : w < overflow f

-- n / d is w units, and below 2 ^ (emax + 1)
below-overflow : (f : Format) (n d w : ℕ) → n * 2 ^ low f ≡ w * d → n < 2 ^ suc (emax f) * d → w < overflow f
below-overflow f n d w e h =
    let c : 2 ^ suc (emax f) * d * 2 ^ low f ≡ overflow f * d =
    mul_right_comm (2 ^ suc (emax f)) d (2 ^ low f) ∙ ap (λ (x : ℕ). x * d) (mul_comm (2 ^ suc (emax f)) (2 ^ low f) ∙ sym (pow-add 2 (low f) (suc (emax f)))) in
    lt_of_mul-lt-mul_right d (lt_of_le_of_lt (le_of_eq (sym e)) (lt_of_lt_of_le (mul-lt-mul_of_pos_right h (pow_pos (low f))) (le_of_eq c)))

-- every value that the format holds is so
units_of : (f : Format) (t s : Bool) (m : ℕ) (e : ℤ) → T (fits f (fin t m e)) → t ≡ s → (w : ℕ) × Units f (fin t m e) s w
units_of f t s m e h c =
    let u = in-units f t m e h in
    let j = u.0 in
    let w = m * 2 ^ j in
    let k = size w - prec f in
    let z : w ≡ m * 2 ^ (j - k) * 2 ^ k = shifted m j k (drops-zeros (prec f) m j u.1) in
    let whole = z ∙ ap (λ (n : ℕ). n * 2 ^ k) (sym (ap (λ (n : ℕ). n / 2 ^ k) z ∙ mul-div_cancel (m * 2 ^ (j - k)) (pow_pos k))) in
    (w, record { held = h; value = (c, u.2); whole = whole; under = below-overflow f (m * up e) (down e) w u.2 u.3 })

double-units : (x : Float) (s : Bool) → Finite x → negative x ≡ s → (w : ℕ) × Units binary64 x s w
double-units nan s h c = absurd h
double-units (inf t) s h c = absurd h
double-units (fin t m e) s h c = units_of binary64 t s m e h c

-- a value is one number of units
one_size : (x : Float) (s : Bool) (w v l : ℕ) → HasValue x s w l → HasValue x s v l → w ≡ v
one_size nan s w v l h k = absurd h
one_size (inf t) s w v l h k = absurd h
one_size (fin t m e) s w v l h k = eq_of_mul-eq-mul_right (down e) (down_pos e) w v (sym h.1 ∙ k.1)

-- a double with a value is neither a NaN nor an infinity
finite-double : (x : Float) (s : Bool) (w l : ℕ) → T (fits binary64 x) → HasValue x s w l → Finite x
finite-double nan s w l h v = absurd v
finite-double (inf t) s w l h v = absurd v
finite-double (fin t m e) s w l h v = h

-- ---- the value between two values with a last bit 0

-- of two even multiples of u the odd multiple after the smaller one lies between
odd-between : (q r u : ℕ) → 0 < u → q % 2 ≡ 0 → r % 2 ≡ 0 → q * u < r * u → (q * u < suc q * u) × (suc q * u < r * u)
odd-between q r u U Q R h = (mul-lt-mul_of_pos_right (lt-suc_self q) U, mul-lt-mul_of_pos_right (skip q r Q R (lt_of_mul-lt-mul_right u h)) U)
  where
    skip : (q r : ℕ) → q % 2 ≡ 0 → r % 2 ≡ 0 → q < r → suc q < r
    skip q r Q R h = omega arith

-- the larger number drops no fewer digits, so it is an even multiple of the smaller one's step too
step-between : (p w v : ℕ) → w ≡ w / step p w * step p w → v ≡ v / step p v * step p v → w / step p w % 2 ≡ 0 → v / step p v % 2 ≡ 0 → w < v
    → (w < suc (w / step p w) * step p w) × (suc (w / step p w) * step p w < v)
step-between p w v c d E F h =
    let k = size w - p in
    let i = size v - p in
    let r = v / 2 ^ i in
    let t = 2 ^ (i - k) in
    let d' : v ≡ r * t * 2 ^ k = d ∙ shifted r i k (fewer (size w) (size v) p (size-le w (size v) (lt_trans h (size-lt v)))) in
    let even : r * t % 2 ≡ 0 = ap (λ (n : ℕ). n % 2) (mul_comm r t) ∙ times-even t r F in
    let b = odd-between (w / 2 ^ k) (r * t) (2 ^ k) (pow_pos k) E even (lt_of_le_of_lt (le_of_eq (sym c)) (lt_of_lt_of_le h (le_of_eq d'))) in
    (lt_of_le_of_lt (le_of_eq c) b.0, lt_of_lt_of_le b.1 (le_of_eq (sym d')))
  where
    fewer : (x y p : ℕ) → x ≤ y → x - p ≤ y - p
    fewer x y p h = omega arith

-- one step above the smaller value is a value of the format, and below the larger one
between : (f : Format) (s : Bool) (x y : Float) (w v : ℕ) → Units f x s w → Units f y s v → to_bits f x % 2 ≡ 0 → to_bits f y % 2 ≡ 0 → w < v
    → (z : Float) × (u : ℕ) × T (fits f z) × HasValue z s u (2 ^ low f) × (w < u) × (u < v)
between f s x y w v X Y E F h =
    let p = prec f in
    let k = size w - p in
    let q = suc (w / 2 ^ k) in
    let b = step-between p w v X.whole Y.whole (sym (last_bit f x s w X.value) ∙ E) (sym (last_bit f y s v Y.value) ∙ F) h in
    let room = odd-fits f (suc p) s q k (lt_of_le_of_lt (kept-lt p w) (pow-lt (lt-suc_self p))) (kept-lt p w) (lt_trans b.1 Y.under) in
    (odd (suc p) s q k (low f), q * 2 ^ k, room, odd_sign (suc p) s q k (low f), b.0, b.1)

-- ---- the law

-- the order of two distances, in units
nearer : (x y : Float) (s : Bool) (a b l w v : ℕ) → 0 < l → HasValue x s w l → HasValue y s v l → distance x s a b * den y ≤ distance y s a b * den x
    → apart s (w * b) s (a * l) ≤ apart s (v * b) s (a * l)
nearer x y s a b l w v L h k n =
    le_of_mul-le-mul_right (transfer _ _ l l (distance x s a b) (distance y s a b) (den x) (den y) (den_pos x) (den_pos y)
    (sym (distance-units x s s a b l w h)) (sym (distance-units y s s a b l v k)) n) L

-- what lies between two numbers that are equally far from c is nearer to c
middle-nearer : (s : Bool) (x z y c : ℕ) → x < z → z < y → apart s x s c ≤ apart s y s c → apart s y s c ≤ apart s x s c → apart s x s c ≤ apart s z s c → ⊥
middle-nearer true x z y c g h i j k = omega arith
middle-nearer false x z y c g h i j k = omega arith

-- of two such doubles the first is not the smaller
no-smaller : (x y : Float) (s : Bool) (a b w v : ℕ) → 0 < b → NearestDouble x s a b → NearestDouble y s a b → Units binary64 x s w → Units binary64 y s v → w < v → ⊥
no-smaller x y s a b w v B N M X Y h =
    let l = 2 ^ low binary64 in
    let L = pow_pos (low binary64) in
    let xy = N.near y M.finite in
    let yx = M.near x N.finite in
    let other : x ≡ y → ⊥ = λ e. lt_irrefl v (subst (λ (n : ℕ). n < v) (one_size x s w v l X.value (subst (λ (z : Float). HasValue z s v l) (sym e) Y.value)) h) in
    let m = between binary64 s x y w v X Y (N.even y M.finite (le_antisymm yx xy) other) (M.even x N.finite (le_antisymm xy yx) (λ e. other (sym e))) h in
    let z = m.0 in
    let u = m.1 in
    middle-nearer s (w * b) (u * b) (v * b) (a * l) (mul-lt-mul_of_pos_right m.4 B) (mul-lt-mul_of_pos_right m.5 B)
    (nearer x y s a b l w v L X.value Y.value xy)
    (nearer y x s a b l v w L Y.value X.value yx)
    (nearer x z s a b l w u L X.value m.3 (N.near z (finite-double z s u l m.2 m.3)))

pub nearest-one : (x y : Float) (s : Bool) (a b : ℕ) → 0 < b → NearestDouble x s a b → NearestDouble y s a b → x ≡ y
nearest-one x y s a b B N M =
    let X = double-units x s N.finite N.sign in
    let Y = double-units y s M.finite M.sign in
    let w = X.0 in
    let v = Y.0 in
    elim (below_or w v) [
      | inl h ↦ absurd (no-smaller x y s a b w v B N M X.1 Y.1 h)
      | inr h ↦ elim (eq-or-lt_of_le h) [
        | inl e ↦ same-value binary64 x y s w X.1.held Y.1.held X.1.value (subst (λ (n : ℕ). HasValue y s n (2 ^ low binary64)) e Y.1.value)
        | inr g ↦ absurd (no-smaller y x s a b v w B M N Y.1 X.1 g)
      ]
    ]

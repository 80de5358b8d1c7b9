-- Laws on doubles that the crates share: the order `lt`, NaN, the absolute value, the larger. Assumes nothing.
use Rattle.std.specs.Prelude.{ℕ, zero, suc, ◌+◌, ◌*◌, ◌<◌, Bool, true, false, ◌≡◌, refl, T, Float}
use Rattle.std.proofs.Common.{sym, ◌∙◌, subst, arith, le_refl, not-suc-le-zero, lt_trans, mul_right_comm, mul-lt-mul_of_pos_right, lt_of_mul-lt-mul_right, mul-pos, zero-mul, ltb-true, lt-ltb, le-ltb}
use Rattle.std.specs.Float.{nan, inf, fin}
use Rattle.std.specs.Float.Ieee.{up, down, lt, ne, is_nan}
use Rattle.std.specs.Float.Ieee.Compare.{differs_from_itself, nan_differs}
use Rattle.std.specs.Float.Ieee.Fits.{down_pos}
use Rattle.real.specs.Tests.{cond_either}
use Rattle.real.specs.Real.{absolute, larger, max_of}

-- ---- `<` of doubles

-- x / a < y / b < z / c
through-lt : (x y z a b c : ℕ) → 0 < a → 0 < c → x * b < y * a → y * c < z * b → x * c < z * a
through-lt x y z a b c A C h k =
    lt_of_mul-lt-mul_right b
    (lt_trans {m = y * c * a} (rw (mul_right_comm x c b, mul_right_comm y c a) (mul-lt-mul_of_pos_right h C))
    (rw (mul_right_comm z a b) (mul-lt-mul_of_pos_right k A)))

-- the first factor of what is above something is above 0
first_pos : (z b n : ℕ) → n < z * b → 0 < z
first_pos zero b n h = absurd (not-suc-le-zero (rw zero-mul at h))
first_pos (suc z) b n h = omega arith

pub lt-trans-float : (x y z : Float) → lt x y ≡ true → lt y z ≡ true → lt x z ≡ true
unfolding lt
lt-trans-float nan y z h k = cc
lt-trans-float (inf s) nan z h k = cc
lt-trans-float (inf s) (inf t) nan h k = k
lt-trans-float (inf true) (inf true) (inf u) h k = cc
lt-trans-float (inf true) (inf false) (inf u) h k = cc
lt-trans-float (inf false) (inf t) (inf u) h k = cc
lt-trans-float (inf true) (inf t) (fin u n d) h k = refl
lt-trans-float (inf false) (inf t) (fin u n d) h k = cc
lt-trans-float (inf s) (fin t n d) nan h k = k
lt-trans-float (inf true) (fin t n d) (inf u) h k = k
lt-trans-float (inf false) (fin t n d) (inf u) h k = cc
lt-trans-float (inf s) (fin t n d) (fin u o f) h k = h
lt-trans-float (fin s m e) nan z h k = cc
lt-trans-float (fin s m e) (inf t) nan h k = k
lt-trans-float (fin s m e) (inf true) (inf u) h k = cc
lt-trans-float (fin s m e) (inf false) (inf u) h k = cc
lt-trans-float (fin s m e) (inf true) (fin u o f) h k = cc
lt-trans-float (fin s m e) (inf false) (fin u o f) h k = cc
lt-trans-float (fin s m e) (fin t n d) nan h k = k
lt-trans-float (fin s m e) (fin t n d) (inf u) h k = k
lt-trans-float (fin false m e) (fin true n d) (fin u o f) h k = cc
lt-trans-float (fin s m e) (fin false n d) (fin true o f) h k = cc
lt-trans-float (fin false m e) (fin false n d) (fin false o f) h k =
    lt-ltb _ _ (through-lt (m * up e) (n * up d) (o * up f) (down e) (down d) (down f) (down_pos e) (down_pos f) (ltb-true _ _ h) (ltb-true _ _ k))
lt-trans-float (fin true m e) (fin true n d) (fin true o f) h k =
    lt-ltb _ _ (through-lt (o * up f) (n * up d) (m * up e) (down f) (down d) (down e) (down_pos f) (down_pos e) (ltb-true _ _ k) (ltb-true _ _ h))
lt-trans-float (fin true m e) (fin false n d) (fin false o f) h k =
    lt-ltb 0 (m * up e * down f + o * up f * down e) (omega (arith, mul-pos (first_pos (o * up f) (down d) _ (ltb-true _ _ k)) (down_pos e)))
lt-trans-float (fin true m e) (fin true n d) (fin false o f) h k =
    lt-ltb 0 (m * up e * down f + o * up f * down e) (omega (arith, mul-pos (first_pos (m * up e) (down d) _ (ltb-true _ _ h)) (down_pos f)))

-- b does not lie above acc, and x does: b does not lie above x
pub not_above : (acc b x : Float) → lt acc x ≡ true → lt acc b ≡ false → lt x b ≡ false
not_above acc b x h k = go (lt x b) refl
  where
    go : (t : Bool) → lt x b ≡ t → t ≡ false
    go true e = let z = lt-trans-float acc x b h e in cc
    go false e = refl

pub lt-self : (x : Float) → lt x x ≡ false
unfolding lt
lt-self nan = refl
lt-self (inf true) = refl
lt-self (inf false) = refl
lt-self (fin true m e) = le-ltb (m * up e * down e) (m * up e * down e) (le_refl _)
lt-self (fin false m e) = le-ltb (m * up e * down e) (m * up e * down e) (le_refl _)

-- ---- NaN

-- only NaN differs from itself
pub ne-nan : (x : Float) → ne x x ≡ is_nan x
unfolding is_nan
ne-nan x = go x (ne x x) refl
  where
    go : (y : Float) (t : Bool) → ne y y ≡ t → t ≡ is_nan y
    go nan t e = sym e ∙ nan_differs
    go (inf s) true e = let z = differs_from_itself (inf s) (subst T (sym e) tt) in cc
    go (inf s) false e = refl
    go (fin s m d) true e = let z = differs_from_itself (fin s m d) (subst T (sym e) tt) in cc
    go (fin s m d) false e = refl

pub nan_is : (x : Float) → is_nan x ≡ true → x ≡ nan
unfolding is_nan
nan_is nan h = refl
nan_is (inf s) h = cc
nan_is (fin s m e) h = cc

-- the absolute value is NaN where the number is
pub nan-absolute : (x : Float) → is_nan (absolute x) ≡ is_nan x
unfolding absolute is_nan
nan-absolute nan = refl
nan-absolute (inf s) = refl
nan-absolute (fin s m e) = refl

pub number-larger : (a b : Float) → is_nan a ≡ false → is_nan b ≡ false → is_nan (larger a b) ≡ false
unfolding larger
number-larger a b ha hb = cond_either (λ x. is_nan x ≡ false) (lt a b) hb ha

-- between numbers the maximum is the larger
pub max-larger : (a b : Float) → is_nan a ≡ false → max_of a b ≡ larger a b
unfolding max_of
max-larger a b h = rw h

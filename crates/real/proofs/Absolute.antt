-- The ways through `abs`: what its tests say of a double. Assumes nothing.
use mathlib.Core.Path.{◌≡◌, refl, sym, ap, ◌∙◌, subst}
use mathlib.Core.Bool.{true, false, ◌||◌, beq, true≢false}
use Prim.Native.Nat.{zero, suc, ◌+◌, ◌*◌, ◌^◌}
use native.Mathlib.Nat.{zero-mul, mul-pos, zero-lt-suc}
use native.Mathlib.Omega.{arith}
use lib.Dec.{T, eqb, eqb→eq}
use borrow.Author.Tests.{lt-ltb, le-ltb}
use lib.IntN.{ℤ, pos, negsuc}
use lib.Ieee.{Float, nan, inf, fin, binary64, up, down, lt, eq, neg, fits, of_bits}
use lib.Ieee.Fits.{up_pos, and_l}
use Rattle.real.specs.Real.{absolute}

-- below zero the sign is turned
pub turned : (x : Float) → lt x (of_bits binary64 0) ≡ true → neg x ≡ absolute x
unfolding lt neg absolute of_bits
turned nan h = cc
turned (inf true) h = refl
turned (inf false) h = cc
turned (fin true m e) h = refl
turned (fin false m e) h = absurd (true≢false (sym h ∙ le-ltb (m * up e * 1) (0 * down e) (omega arith)))

-- a zero that fits is written with the exponent 0
exponent : (e : ℤ) → eqb (up e * down e) 1 ≡ true → pos 0 ≡ e
exponent (pos zero) h = refl
exponent (pos (suc k)) h = let q = eqb→eq (2 ^ suc k * 1) 1 (subst T (sym h) tt) in absurd (omega arith)
exponent (negsuc k) h = let q = eqb→eq (1 * 2 ^ suc k) 1 (subst T (sym h) tt) in absurd (omega arith)

-- at zero the answer is +0.0
pub cleared : (x : Float) → fits binary64 x ≡ true → eq x (of_bits binary64 0) ≡ true → of_bits binary64 0 ≡ absolute x
unfolding eq fits absolute of_bits
cleared nan f h = cc
cleared (inf s) f h = cc
cleared (fin s zero e) f h = ap (fin false 0) (exponent e f)
cleared (fin s (suc m) e) f h =
    let q = eqb→eq (suc m * up e * 1) (0 * down e) (and_l (eqb (suc m * up e * 1) (0 * down e)) (beq s false || eqb (suc m * up e * 1) 0) (subst T (sym h) tt)) in
    let p = mul-pos (zero-lt-suc m) (up_pos e) in
    absurd (omega arith)

-- else it is the number itself
pub kept : (x : Float) → lt x (of_bits binary64 0) ≡ false → eq x (of_bits binary64 0) ≡ false → x ≡ absolute x
unfolding lt eq absolute of_bits
kept nan h k = refl
kept (inf true) h k = cc
kept (inf false) h k = refl
kept (fin false m e) h k = refl
kept (fin true zero e) h k = absurd (true≢false (sym (simp zero-mul) ∙ k))
kept (fin true (suc m) e) h k =
    let p = mul-pos (zero-lt-suc m) (up_pos e) in
    absurd (true≢false (sym (lt-ltb 0 (suc m * up e * 1 + 0 * down e) (omega arith)) ∙ h))

-- Rounding and signs: a rounded fraction negated, which sign it has, the order of negated doubles, and what `le` says of two fractions.
-- Assumes nothing.
use mathlib.Core.Path.{◌≡◌, refl, sym, ap, ◌∙◌, subst}
use mathlib.Core.Bool.{Bool, true, false, not, ◌&&◌, ◌||◌, cond, true≢false}
use mathlib.Core.Logic.{inl, inr}
use Prim.Native.Nat.{ℕ, zero, suc, ◌+◌, ◌*◌, ◌^◌, ◌≤◌, ◌<◌}
use native.Mathlib.Nat.{mul-one, one-mul, le_of_lt, le_of_eq, add_comm, eq-or-lt_of_le}
use native.Mathlib.Omega.{arith}
use lib.Dec.{T, ltb, eqb, ltb→lt, lt→ltb, eqb→eq, lit<}
use lib.IntN.{pos}
use lib.Ieee.{Float, nan, inf, fin, Format, binary64, prec, emax, low, up, down, neg, lt, le, odd, units, round}
use lib.Ieee.Fits.{down_pos, round_is, and_l, and_i, eq→eqb}
use lib.Ieee.Order.{round_mono}

-- ---- rounding, negated

neg-odd : (d : ℕ) (s : Bool) (q k l : ℕ) → neg (odd d s q k l) ≡ odd d (not s) q k l
unfolding neg odd
neg-odd d s zero k l = refl
neg-odd d s (suc q) k l = refl

neg-units : (f : Format) (s : Bool) (q k : ℕ) → neg (units f s q k) ≡ units f (not s) q k
unfolding neg units
neg-units f s q k = go (ltb (q * 2 ^ k) (2 ^ (low f + suc (emax f))))
  where
    go : (b : Bool) → neg (cond b (odd (suc (prec f)) s q k (low f)) (inf s)) ≡ cond b (odd (suc (prec f)) (not s) q k (low f)) (inf (not s))
    go true = neg-odd (suc (prec f)) s q k (low f)
    go false = refl

pub neg-round : (f : Format) (s : Bool) (a b : ℕ) → neg (round f s a b) ≡ round f (not s) a b
neg-round f s a b = ap neg (round_is f s a b) ∙ neg-units f s _ _ ∙ sym (round_is f (not s) a b)

pub lt-neg : (x y : Float) → lt (neg x) (neg y) ≡ lt y x
unfolding lt neg
lt-neg nan nan = refl
lt-neg nan (inf t) = refl
lt-neg nan (fin t n d) = refl
lt-neg (inf s) nan = refl
lt-neg (inf true) (inf true) = refl
lt-neg (inf true) (inf false) = refl
lt-neg (inf false) (inf true) = refl
lt-neg (inf false) (inf false) = refl
lt-neg (inf s) (fin t n d) = refl
lt-neg (fin s m e) nan = refl
lt-neg (fin s m e) (inf true) = refl
lt-neg (fin s m e) (inf false) = refl
lt-neg (fin true m e) (fin true n d) = refl
lt-neg (fin true m e) (fin false n d) = refl
lt-neg (fin false m e) (fin true n d) = ap (λ (k : ℕ). ltb 0 k) (add_comm (m * up e * down d) (n * up d * down e))
lt-neg (fin false m e) (fin false n d) = refl

-- ---- what `le` says of two fractions, and what it takes

pub either-le : (a b : ℕ) (c : Bool) → T (ltb a b || (eqb a b && c)) → a ≤ b
either-le a b c t = go (ltb a b) (ltb→lt a b) t
  where
    go : (l : Bool) → (T l → a < b) → T (l || (eqb a b && c)) → a ≤ b
    go true h t = le_of_lt (h tt)
    go false h t = le_of_eq (eqb→eq a b (and_l (eqb a b) c t))

pub either-ge : (a b : ℕ) (c : Bool) → T (ltb a b || (eqb b a && c)) → a ≤ b
either-ge a b c t = go (ltb a b) (ltb→lt a b) t
  where
    go : (l : Bool) → (T l → a < b) → T (l || (eqb b a && c)) → a ≤ b
    go true h t = le_of_lt (h tt)
    go false h t = le_of_eq (sym (eqb→eq b a (and_l (eqb b a) c t)))

first : (x y : Bool) → T x → T (x || y)
first true y t = tt
first false y t = elim t [ ]

last : (x y : Bool) → T y → T (x || y)
last true y t = tt
last false y t = t

of_le : (a b : ℕ) (q : Bool) → (a ≡ b → T q) → a ≤ b → T (ltb a b || (q && true))
of_le a b q same h = elim (eq-or-lt_of_le h) [ inl p ↦ last (ltb a b) _ (and_i q true (same p) tt) | inr l ↦ first (ltb a b) _ (lt→ltb a b l) ]

-- ---- rounded fractions from 0 up to a power of two

-- a finite double with its sign clear, of at most b
abbrev pub AtMost : ℕ → Float → Type 0
AtMost b nan = ⊥
AtMost b (inf s) = ⊥
AtMost b (fin true m e) = ⊥
AtMost b (fin false m e) = m * up e ≤ b * down e

abbrev clear : Float → Type 0
clear nan = ⊥
clear (inf s) = s ≡ false
clear (fin s m e) = s ≡ false

round-clear : (f : Format) (a b : ℕ) → clear (round f false a b)
round-clear f a b = subst clear (sym (round_is f false a b)) (units-clear _ _)
  where
    odd-clear : (d q k l : ℕ) → clear (odd d false q k l)
    odd-clear d zero k l = unfold odd in refl
    odd-clear d (suc q) k l = unfold odd in refl

    units-clear : (q k : ℕ) → clear (units f false q k)
    units-clear q k = unfold units in go (ltb (q * 2 ^ k) (2 ^ (low f + suc (emax f))))
      where
        go : (t : Bool) → clear (cond t (odd (suc (prec f)) false q k (low f)) (inf false))
        go true = odd-clear (suc (prec f)) q k (low f)
        go false = refl

-- what lies at or below 2 ^ k, with its sign clear
at_most : (k : ℕ) (z : Float) → clear z → T (le z (fin false 1 (pos k))) → AtMost (2 ^ k) z
unfolding le
at_most k nan c h = c
at_most k (inf true) c h = absurd (true≢false c)
at_most k (inf false) c h = h
at_most k (fin true m e) c h = absurd (true≢false c)
at_most k (fin false m e) c h = let l = either-le (m * up e * 1) (1 * 2 ^ k * down e) true h in rw (← mul-one (m * up e), ← one-mul (2 ^ k)) l

pub round-at-most : (k a b : ℕ) → 0 < b → a ≤ 2 ^ k * b → round binary64 false (2 ^ k) 1 ≡ fin false 1 (pos k) → AtMost (2 ^ k) (round binary64 false a b)
round-at-most k a b B h e =
    at_most k (round binary64 false a b) (round-clear binary64 a b)
    (subst (λ (y : Float). T (le (round binary64 false a b) y)) e (round_mono binary64 a b (2 ^ k) 1 B (lit< tt) (rw mul-one h)))

-- ---- from -1 to 1

abbrev pub Small : Float → Type 0
Small z = T (le (fin true 1 (pos 0)) z) × T (le z (fin false 1 (pos 0)))

-- a number that is at most 1, and its negative
small-both : (z : Float) → AtMost 1 z → Small z × Small (neg z)
unfolding le neg
small-both nan h = absurd h
small-both (inf s) h = absurd h
small-both (fin true m e) h = absurd h
small-both (fin false m e) h =
    let d = down_pos e in
    let x = m * up e * 1 in
    let y = 1 * down e in (
      (first (ltb 0 (y + x)) _ (lt→ltb 0 (y + x) (omega arith)), of_le x y (eqb x y) (λ p. eq→eqb p) (omega arith)),
      (of_le x y (eqb y x) (λ p. eq→eqb (sym p)) (omega arith), first (ltb 0 (x + y)) _ (lt→ltb 0 (x + y) (omega arith))),
    )

pub small-above : (z : Float) → AtMost 1 z → Small z
small-above z h = (small-both z h).0

pub small-below : (z : Float) → AtMost 1 z → Small (neg z)
small-below z h = (small-both z h).1

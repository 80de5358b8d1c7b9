-- The norm as a loop works it out, an entry more at each turn; and that it is what 01 says. Assumes nothing.
use Rattle.std.specs.Prelude.{ℕ, zero, suc, ◌+◌, ◌<◌, ◌≡◌, refl, Bool, true, false, cond, List, ◌⊎◌, get_or, Float}
use Rattle.std.proofs.Common.{ap, ◌∙◌, inl, inr, ⊎_elim, arith, not-suc-le-zero, add-one}
use Rattle.std.specs.Float.{nan}
use Rattle.std.specs.Float.Ieee.{lt, is_nan, of_bits}
use Rattle.real.specs.Tests.{nor-left, nor-right, same-or-below}
use Rattle.real.specs.Any.{any_below}
use Rattle.real.specs.Any.Laws.{one_below}
use Rattle.real.specs.Literals.{nought}
use Rattle.real.specs.Real.{absolute, larger, max_of}
use Rattle.real.specs.Real.Laws.{not_above, lt-self, nan-absolute, number-larger, max-larger}
use Rattle.real.specs.Norm.{any_nan, largest, norm_of, IsNorm}

-- ---- step by step

-- what a loop has found before the entry k: no NaN, and the largest so far
pub record Found (k : ℕ) (l : List Float) (norm : Float) : Type 0 where
  pub real : any_nan k l ≡ false
  pub most : norm ≡ largest k l

pub norm-begins : (l : List Float) → Found 0 l nought
unfolding any_below largest
norm-begins l = record { real = refl; most = refl }

none_more : (k : ℕ) (l : List Float) → any_nan k l ≡ false → is_nan (get_or l k nan) ≡ false → any_nan (suc k) l ≡ false
unfolding any_below
none_more k l h e = rw (h, e)

-- the largest of numbers is a number
number : (k : ℕ) (l : List Float) → any_nan k l ≡ false → is_nan (largest k l) ≡ false
unfolding any_below largest is_nan of_bits
number zero l h = refl
number (suc k) l h =
    number-larger (largest k l) (absolute (get_or l k nan)) (number k l (nor-left (any_nan k l) _ h)) (nan-absolute (get_or l k nan) ∙ nor-right (any_nan k l) _ h)

pub norm-turn : (k : ℕ) (l : List Float) (norm r : Float) → Found k l norm → is_nan (get_or l k nan) ≡ false → r ≡ max_of norm (absolute (get_or l k nan))
    → Found (k + 1) l r
unfolding largest
norm-turn k l norm r f h e =
    rw add-one
    (record {
      real = none_more k l f.real h;
      most = e ∙ ap (λ (x : Float). max_of x (absolute (get_or l k nan))) f.most ∙ max-larger (largest k l) _ (number k l f.real);
    })

pub norm-ends : (n : ℕ) (l : List Float) (norm : Float) → Found n l norm → norm ≡ norm_of n l
unfolding norm_of
norm-ends n l norm f = rw f.real f.most

-- an entry that is NaN, met on the way
pub norm-nan : (n : ℕ) (l : List Float) (i : ℕ) → i < n → is_nan (get_or l i nan) ≡ true → norm_of n l ≡ nan
unfolding norm_of
norm-nan n l i p e = rw (one_below n (λ k. is_nan (get_or l k nan)) i p e)

-- ---- 01's sentence

above-larger : (a b : Float) → lt (larger a b) b ≡ false
unfolding larger
above-larger a b = go (lt a b) refl
  where
    go : (t : Bool) → lt a b ≡ t → lt (cond t b a) b ≡ false
    go true e = lt-self b
    go false e = e

-- what is not above a is not above the larger of a and b
above-first : (a b x : Float) → lt a x ≡ false → lt (larger a b) x ≡ false
unfolding larger
above-first a b x h = go (lt a b) refl
  where
    go : (t : Bool) → lt a b ≡ t → lt (cond t b a) x ≡ false
    go true e = not_above a x b e h
    go false e = h

above-each : (n : ℕ) (l : List Float) (i : ℕ) → i < n → lt (largest n l) (absolute (get_or l i nan)) ≡ false
unfolding largest
above-each zero l i h = absurd (not-suc-le-zero h)
above-each (suc k) l i h =
    ⊎_elim (λ q. rw q (above-larger (largest k l) (absolute (get_or l k nan))))
    (λ q. above-first (largest k l) (absolute (get_or l k nan)) (absolute (get_or l i nan)) (above-each k l i q))
    (same-or-below h)

one_of : (a b : Float) → (larger a b ≡ a) ⊎ (larger a b ≡ b)
unfolding larger
one_of a b = go (lt a b)
  where
    go : (t : Bool) → (cond t b a ≡ a) ⊎ (cond t b a ≡ b)
    go true = inr refl
    go false = inl refl

abbrev Met : ℕ → List Float → Float → Type 0
Met n l r = (r ≡ nought) ⊎ ((i : ℕ) × (i < n) × (r ≡ absolute (get_or l i nan)))

met : (n : ℕ) (l : List Float) → Met n l (largest n l)
unfolding largest
met zero l = inl refl
met (suc k) l = go (one_of (largest k l) (absolute (get_or l k nan))) (met k l)
  where
    a : Float
    a = largest k l

    go : (larger a (absolute (get_or l k nan)) ≡ a) ⊎ (larger a (absolute (get_or l k nan)) ≡ absolute (get_or l k nan)) → Met k l a
        → Met (suc k) l (larger a (absolute (get_or l k nan)))
    go (inr p) m = inr (k, omega arith, p)
    go (inl p) (inl z) = inl (p ∙ z)
    go (inl p) (inr w) = inr (w.0, omega (arith, w.1), p ∙ w.2)

pub norm-is : (n : ℕ) (l : List Float) → IsNorm n l (norm_of n l)
unfolding norm_of any_below largest
norm-is n l = record { empty = none n; poisoned = norm-nan n l; highest = λ e i h. rw (is e) (above-each n l i h); taken = λ e. rw (is e) (met n l) }
  where
    none : (m : ℕ) → m ≡ 0 → norm_of m l ≡ nought
    none m e = rw e

    is : any_nan n l ≡ false → norm_of n l ≡ largest n l
    is e = rw e

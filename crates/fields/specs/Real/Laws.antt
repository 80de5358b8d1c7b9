-- A real's digits at each answer: none before the point, too many, a byte that is no digit, a value; the digit rule as a limit
-- of the number; and that zeros in front don't matter. Assumes nothing.
use Rattle.std.specs.Prelude.{◌≡◌, refl, false, List, [], ◌∷◌, ◌++◌, ℕ, zero, suc, ◌^◌, ◌≤◌, ◌<◌, eqb, ltb, length, replicate, None, Some}
use Rattle.std.proofs.Common.{sym, ap, ◌∙◌, le_trans, ⊎_elim}
use Rattle.std.proofs.Math.Bool.{true, and-false}
use Rattle.std.specs.Float.{binary64}
use Rattle.std.specs.Float.Ieee.{div, of_bits, of_int}
use Rattle.std.proofs.Math.Dec.{leb}
use borrow.Author.Tests.{ne_eqb, le-leb, lt-leb, leb-true, lt-ltb, le-ltb, ltb-true}
use Rattle.real.specs.Tests.{decided, true-false, and_left, and_right}
use Rattle.real.specs.Literals.{double, nought}
use Rattle.fields.specs.Cut.{upto, past, has, empty}
use Rattle.fields.specs.Digits.{digit, digits, number, limited_of, counted}
use Rattle.fields.specs.Digits.Laws.{number_append, digits_append, number-grows, count-limit, limited-other, limited-digits, limited-below, limited-number}
use Rattle.fields.specs.Real.{DigitRule, allowed, amount_by, negated_of, amount_of, unsigned_of, real_of}

pub no-digits : (d : List ℕ) → amount_of [] d ≡ None
unfolding amount_by
no-digits d = refl

-- by any rule
pub too_many : (rule : DigitRule) (w d : List ℕ) → rule w d ≡ false → amount_by rule w d ≡ None
unfolding amount_by
too_many rule w d h = rw (h, and-false, and-false, and-false)

pub not-whole : (w d : List ℕ) → digits w ≡ false → amount_of w d ≡ None
unfolding amount_by
not-whole w d h = rw (h, and-false)

pub not-decimals : (w d : List ℕ) → digits d ≡ false → amount_of w d ≡ None
unfolding amount_by
not-decimals w d h = rw (h, and-false, and-false)

-- ---- the digit rule: no more than 15 digits count exactly where the number is below 10^15

module _ (w d : List ℕ) where
  pub few-counted : allowed w d ≡ true → length (counted (w ++ d)) ≤ 15
  unfolding allowed
  few-counted h = leb-true (length (counted (w ++ d))) 15 (and_left _ (leb (length d) 22) h)

  pub few-decimals : allowed w d ≡ true → length d ≤ 22
  unfolding allowed
  few-decimals h = leb-true (length d) 22 (and_right (leb (length (counted (w ++ d))) 15) _ h)

  -- whatever the digits are
  pub many-decimals : 22 < length d → amount_of w d ≡ None
  unfolding allowed
  many-decimals h = too_many allowed w d (rw (lt-leb (length d) 22 h, and-false))

  module _ (p : digits w ≡ true) (q : digits d ≡ true) where
    limit : leb (length (counted (w ++ d))) 15 ≡ ltb (number (number 0 w) d) (10 ^ 15)
    limit = rw (number_append 0 w d) at (count-limit (w ++ d) (digits_append w d p ∙ q))

    pub number_small : allowed w d ≡ true → number (number 0 w) d < 10 ^ 15
    unfolding allowed
    number_small h = ltb-true (number (number 0 w) d) (10 ^ 15) (sym limit ∙ and_left _ (leb (length d) 22) h)

    number-large : 10 ^ 15 ≤ number (number 0 w) d → amount_of w d ≡ None
    unfolding allowed
    number-large h = too_many allowed w d (rw (limit, le-ltb (number (number 0 w) d) (10 ^ 15) h))

-- ---- the ways of the code: the digits before the point as a number, and those behind it after that

module _ (w d : List ℕ) where
  pub whole-wrong : limited_of 0 w ≡ None → amount_of w d ≡ None
  whole-wrong h = ⊎_elim (λ p. ⊎_elim (large p) (not-decimals w d) (decided (digits d))) (not-whole w d) (decided (digits w))
    where
      large : digits w ≡ true → digits d ≡ true → amount_of w d ≡ None
      large p q = number-large w d p q (le_trans (limited-other 0 w h p) (number-grows (number 0 w) d))

  module _ (n : ℕ) (h : limited_of 0 w ≡ Some n) where
    pub rest-wrong : limited_of n d ≡ None → amount_of w d ≡ None
    rest-wrong g =
        ⊎_elim (λ q. number-large w d (limited-digits 0 w n h) q (rw (limited-number 0 w n h) (limited-other n d g q))) (not-decimals w d) (decided (digits d))

    pub first_below_lem : n < 10 ^ 15
    first_below_lem = rw (limited-number 0 w n h) at (limited-below 0 w n h)

    module _ (m : ℕ) (g : limited_of n d ≡ Some m) where
      pub second_below : m < 10 ^ 15
      second_below = rw (limited-number n d m g) at (limited-below n d m g)

      is : number (number 0 w) d ≡ m
      is = rw (limited-number 0 w n h) (limited-number n d m g)

      pub value : empty w ≡ false → length d ≤ 22 → amount_of w d ≡ Some (div binary64 (double m) (double (10 ^ length d)))
      unfolding amount_by allowed
      value e k =
          let p = limited-digits 0 w n h in
          let q = limited-digits n d m g in
          let f : leb (length (counted (w ++ d))) 15 ≡ true = limit w d p q ∙ rw is (lt-ltb m (10 ^ 15) second_below) in
          rw (e, p, q, f, le-leb (length d) 22 k, is)

-- ---- zeros in front don't matter, however many

one-zero : (w d : List ℕ) → empty w ≡ false → amount_of (48 ∷ w) d ≡ amount_of w d
unfolding amount_by allowed counted digits number
one-zero w d h = rw h

-- a digit is no other byte
not-other : (b x : ℕ) → digit b ≡ true → digit x ≡ false → eqb b x ≡ false
not-other b x h g = ne_eqb b x (λ e. true-false (rw e at h) g)

unsigned-zero : (b : ℕ) (r : List ℕ) → digit b ≡ true → unsigned_of (48 ∷ b ∷ r) ≡ unsigned_of (b ∷ r)
unfolding has upto past
unsigned-zero b r h = rw (not-other b 46 h refl, one-zero (b ∷ upto 46 r) (past 46 r) refl, one-zero (b ∷ r) [] refl)

unsigned-zeros : (n b : ℕ) (r : List ℕ) → digit b ≡ true → unsigned_of (replicate n 48 ++ (b ∷ r)) ≡ unsigned_of (b ∷ r)
unsigned-zeros zero b r h = refl
unsigned-zeros (suc zero) b r h = unsigned-zero b r h
unsigned-zeros (suc (suc n)) b r h = unsigned-zero 48 (replicate n 48 ++ (b ∷ r)) refl ∙ unsigned-zeros (suc n) b r h

-- a real is what it is without them, with a minus too
pub zeros-in-front : (n b : ℕ) (r : List ℕ) → digit b ≡ true
    → (real_of (replicate n 48 ++ (b ∷ r)) ≡ real_of (b ∷ r)) × (real_of (45 ∷ (replicate n 48 ++ (b ∷ r))) ≡ real_of (45 ∷ b ∷ r))
zeros-in-front n b r h = (plain n, ap negated_of (unsigned-zeros n b r h))
  where
    plain : (n : ℕ) → real_of (replicate n 48 ++ (b ∷ r)) ≡ real_of (b ∷ r)
    plain zero = refl
    plain (suc n) = unsigned-zeros (suc n) b r h ∙ rw (not-other b 45 h refl)

-- and zeros alone are 0, however many
pub zeros-alone : (n : ℕ) → real_of (replicate n 48 ++ (48 ∷ [])) ≡ Some nought
unfolding of_bits div of_int has digits number counted allowed amount_by
zeros-alone n = (zeros-in-front n 48 [] refl).0

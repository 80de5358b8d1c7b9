-- Every field that 01's digit rule accepted is accepted, and has the value that it had. Assumes nothing.
use Rattle.std.specs.Prelude.{◌≡◌, refl, Bool, true, false, cond, ℕ, ◌+◌, ◌≤◌, eqb, length, Float, None, Option, is_some}
use Rattle.std.proofs.Common.{sym, ap, ◌∙◌, le_trans, arith, length-append, leb-true, leb-false, le-leb}
use Rattle.std.proofs.Math.Logic.{⊎_elim}
use mathlib.Core.List.{List, [], ◌∷◌, ◌++◌}
use Rattle.real.specs.Tests.{decided, true-false}
use Rattle.fields.specs.Cut.{upto, past, has, empty, only}
use Rattle.fields.specs.Cut.Laws.{has-not, past-none}
use Rattle.fields.specs.Digits.{counted}
use Rattle.fields.specs.Digits.Laws.{counted-le}
use Rattle.fields.specs.Real.{DigitRule, allowed, negated_of, amount_by, pointed_by, unsigned_by, real_by, real_of, or_nan_by, or_nan_of}
use Rattle.fields.specs.Real.Laws.{too_many, few-counted, few-decimals}
use Rattle.fields.specs.Decimal.{wholes, decimals}
use Rattle.fields.specs.Before.{allowed_before, Spared}

-- ---- what 01's rule takes, 02's takes

pub before-allowed : (w d : List ℕ) → allowed_before w d ≡ true → allowed w d ≡ true
unfolding allowed allowed_before
before-allowed w d h =
    let k = leb-true (length w + length d) 15 h in
    let g : length (w ++ d) ≤ 15 = rw length-append k in
    rw (le-leb (length (counted (w ++ d))) 15 (le_trans (counted-le (w ++ d)) g), le-leb (length d) 22 (omega arith))

-- ---- what a rule reads of a field: the decimal that is written, where the rule takes its digits

-- every number of digits
abbrev every : DigitRule
every w d = true

either-wrong : (b : Bool) → ◌≡◌ {A = Option Float} None (cond b None None)
either-wrong true = refl
either-wrong false = refl

module _ (rule : DigitRule) where
  amount-taken : (w d : List ℕ) → rule w d ≡ true → amount_by rule w d ≡ amount_by every w d
  unfolding amount_by
  amount-taken w d q = rw q

  amount-at : (w d : List ℕ) → amount_by rule w d ≡ cond (rule w d) (amount_by every w d) None
  amount-at w d = ⊎_elim (λ q. amount-taken w d q ∙ rw q) (λ q. too_many rule w d q ∙ rw q) (decided (rule w d))

  pointed-at : (l : List ℕ) → pointed_by rule l ≡ cond (rule (upto 46 l) (past 46 l)) (pointed_by every l) None
  pointed-at l = ⊎_elim (λ e. rw e (either-wrong (rule (upto 46 l) (past 46 l)))) (λ e. rw e (amount-at (upto 46 l) (past 46 l))) (decided (empty (past 46 l)))

  unsigned-at : (l : List ℕ) → unsigned_by rule l ≡ cond (rule (upto 46 l) (past 46 l)) (unsigned_by every l) None
  unsigned-at l = ⊎_elim (λ p. rw p (pointed-at l)) (λ p. rw p (plain p)) (decided (has 46 l))
    where
      plain : has 46 l ≡ false → amount_by rule l [] ≡ cond (rule (upto 46 l) (past 46 l)) (amount_by every l []) None
      plain p = rw (has-not 46 l p, past-none 46 l p) (amount-at l [])

  negated-at : (b : Bool) (r : Option Float) → negated_of (cond b r None) ≡ cond b (negated_of r) None
  negated-at true r = refl
  negated-at false r = refl

  real-at : (l : List ℕ) → real_by rule l ≡ cond (rule (wholes l) (decimals l)) (real_by every l) None
  unfolding upto past
  real-at [] = either-wrong (rule [] [])
  real-at (b ∷ r) =
      ⊎_elim (λ m. rw m (ap negated_of (unsigned-at r) ∙ negated-at (rule (upto 46 r) (past 46 r)) (unsigned_by every r))) (λ m. rw m (unsigned-at (b ∷ r))) (decided (eqb b 45))

module _ (rule : DigitRule) (l : List ℕ) where
  -- its digits are few enough for the rule, or they are not
  real-taken : rule (wholes l) (decimals l) ≡ true → real_by rule l ≡ real_by every l
  real-taken q = rw q at (real-at rule l)

  real-refused : rule (wholes l) (decimals l) ≡ false → real_by rule l ≡ None
  real-refused q = rw q at (real-at rule l)

  -- a real's are
  real-few : is_some (real_by rule l) ≡ true → rule (wholes l) (decimals l) ≡ true
  real-few h = ⊎_elim (λ q. q) (λ q. absurd (true-false h (ap is_some (real-refused q)))) (decided (rule (wholes l) (decimals l)))

-- ---- so what 01's rule accepted is accepted, with the same value

pub real-kept : (l : List ℕ) → is_some (real_by allowed_before l) ≡ true → real_of l ≡ real_by allowed_before l
real-kept l h =
    let few = real-few allowed_before l h in
    real-taken allowed l (before-allowed (wholes l) (decimals l) few) ∙ sym (real-taken allowed_before l few)

pub or-nan-kept : (l : List ℕ) → is_some (or_nan_by allowed_before l) ≡ true → or_nan_of l ≡ or_nan_by allowed_before l
or-nan-kept l h = ⊎_elim (λ q. rw q) (λ q. rw q (real-kept l (rw q at h))) (decided (only 63 l))

-- ---- and a real that is accepted and was not is spared its zeros in front

pub real-spared : (l : List ℕ) → is_some (real_by allowed_before l) ≡ false → is_some (real_of l) ≡ true → Spared l
unfolding allowed_before
real-spared l was is =
    let taken = real-few allowed l is in
    record { many = leb-false (length (wholes l) + length (decimals l)) 15 refused; few = few-counted (wholes l) (decimals l) taken; places = few-decimals (wholes l) (decimals l) taken }
  where
    refused : allowed_before (wholes l) (decimals l) ≡ false
    refused = ⊎_elim (λ q. absurd (true-false (ap is_some (real-taken allowed_before l q ∙ sym (real-taken allowed l (before-allowed _ _ q))) ∙ is) was)) (λ q. q) (decided (allowed_before (wholes l) (decimals l)))

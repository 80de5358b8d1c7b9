-- The digit rule for all lengths: a digit more, the ends, which digits count, and that no more than 15 count exactly where the number is below 10^15.
-- Assumes nothing.
use Rattle.std.specs.Prelude.{◌≡◌, refl, Bool, true, false, cond, ◌&&◌, List, [], ◌∷◌, ◌++◌, ℕ, ◌+◌, ◌-◌, ◌*◌, ◌^◌, ◌≤◌, ◌<◌, eqb, leb, ltb, length, get_or, None, Some}
use Rattle.std.proofs.Common.{sym, ◌∙◌, ⊎_elim, arith, mul_assoc, mul-le-mul_right, le_trans, lit<}
use Rattle.std.proofs.Math.Bool.{and-false}
use Rattle.std.proofs.Math.Nat.{pow-succ', pow-le-pow_right}
use Rattle.std.proofs.Math.Seq.{slice, slice_empty}
use borrow.Author.Tests.{eqb-true, eqb-false, le-leb, leb-true, leb-false, lt-ltb, le-ltb, ltb-true, ltb-false, lt-leb}
use Rattle.real.specs.Tests.{decided, no-case, and_left, and_right}
use Rattle.fields.specs.Cut.Laws.{slice-step}
use Rattle.fields.specs.Digits.{limited_of, digits_of, digits, digit, number, counted}

-- ---- from a place on: a byte that is no digit, a digit too many, a digit, the end

module _ (s : List ℕ) (i e m : ℕ) (h : i < e) (k : e ≤ length s) where
  pub not_digit_ends : digit (get_or s i 0) ≡ false → limited_of m (slice i e s) ≡ None
  unfolding digits
  not_digit_ends q = rw (slice-step s i e h k, q)

  pub limited-low : get_or s i 0 < 48 → limited_of m (slice i e s) ≡ None
  limited-low q = not_digit_ends (rw (lt-leb 48 (get_or s i 0) q))

  pub limited-high : 57 < get_or s i 0 → limited_of m (slice i e s) ≡ None
  limited-high q = not_digit_ends (rw (le-leb 48 (get_or s i 0) (omega arith), lt-leb (get_or s i 0) 57 q))

  pub digit_goes_on : digit (get_or s i 0) ≡ true → limited_of m (slice i e s) ≡ limited_of (m * 10 + (get_or s i 0 - 48)) (slice (i + 1) e s)
  unfolding digits number
  digit_goes_on q = rw (slice-step s i e h k, q)

  pub limited-on : 48 ≤ get_or s i 0 → get_or s i 0 ≤ 57 → limited_of m (slice i e s) ≡ limited_of (m * 10 + (get_or s i 0 - 48)) (slice (i + 1) e s)
  limited-on q r = digit_goes_on (rw (le-leb 48 (get_or s i 0) q, le-leb (get_or s i 0) 57 r))

pub limited-end : (s : List ℕ) (i e m : ℕ) → e ≤ i → i ≤ e → m < 10 ^ 15 → limited_of m (slice i e s) ≡ Some m
unfolding digits number
limited-end s i e m h k l = let q : e ≡ i = omega arith in rw (q, slice_empty i s, lt-ltb m (10 ^ 15) l)

-- ---- digits in two parts

pub number_append : (m : ℕ) (w d : List ℕ) → number m (w ++ d) ≡ number (number m w) d
unfolding number
number_append m [] d = refl
number_append m (b ∷ r) d = number_append (m * 10 + (b - 48)) r d

pub digits_append : (w d : List ℕ) → digits w ≡ true → digits (w ++ d) ≡ digits d
unfolding digits
digits_append [] d h = refl
digits_append (b ∷ r) d h = rw (and_left (digit b) (digits r) h) (digits_append r d (and_right (digit b) (digits r) h))

-- ---- how large a number is

-- k digits after m stay below (m + 1) times 10^k, and reach m times 10^k
number_bound : (m : ℕ) (l : List ℕ) → digits l ≡ true → number m l + 1 ≤ (m + 1) * 10 ^ length l
unfolding digits number
number_bound m [] h = omega arith
number_bound m (b ∷ r) h =
    let q : b ≤ 57 = leb-true b 57 (and_right (leb 48 b) (leb b 57) (and_left (digit b) (digits r) h)) in
    le_trans (number_bound (m * 10 + (b - 48)) r (and_right (digit b) (digits r) h))
    (rw (pow-succ' 10 (length r), ← mul_assoc (m + 1) 10 (10 ^ length r)) (mul-le-mul_right (10 ^ length r) (omega arith)))

number-least : (m : ℕ) (l : List ℕ) → m * 10 ^ length l ≤ number m l
unfolding number
number-least m [] = omega arith
number-least m (b ∷ r) =
    rw (pow-succ' 10 (length r), ← mul_assoc m 10 (10 ^ length r))
    (le_trans (mul-le-mul_right {n = m * 10 + (b - 48)} (10 ^ length r) (omega arith)) (number-least (m * 10 + (b - 48)) r))

pub number-grows : (m : ℕ) (l : List ℕ) → m ≤ number m l
unfolding number
number-grows m [] = omega arith
number-grows m (b ∷ r) = le_trans (omega arith) (number-grows (m * 10 + (b - 48)) r)

tens : (k : ℕ) → k ≤ 15 → 10 ^ k ≤ 10 ^ 15
tens k h = pow-le-pow_right (lit< tt) h

-- ---- the digits that count

pub counted-le : (l : List ℕ) → length (counted l) ≤ length l
unfolding counted
counted-le [] = omega arith
counted-le (b ∷ r) = ⊎_elim (λ q. rw q (omega (arith, counted-le r))) (λ q. rw q (omega arith)) (decided (eqb b 48))

counted-digits : (l : List ℕ) → digits l ≡ true → digits (counted l) ≡ true
unfolding counted digits
counted-digits [] h = h
counted-digits (b ∷ r) h = ⊎_elim (λ q. rw q (counted-digits r (and_right (digit b) (digits r) h))) (λ q. rw q h) (decided (eqb b 48))

-- zeros in front don't change the number
number-counted : (l : List ℕ) → number 0 (counted l) ≡ number 0 l
unfolding counted number
number-counted [] = refl
number-counted (b ∷ r) = ⊎_elim (λ q. rw (q, eqb-true b 48 q) (number-counted r)) (λ q. rw q) (decided (eqb b 48))

few-below : (l : List ℕ) → digits l ≡ true → length (counted l) ≤ 15 → number 0 l < 10 ^ 15
few-below l h k =
    let f = rw (number-counted l) at (number_bound 0 (counted l) (counted-digits l h)) in
    let g : number 0 l + 1 ≤ 10 ^ length (counted l) = omega arith in
    let t : number 0 l + 1 ≤ 10 ^ 15 = le_trans g (tens (length (counted l)) k) in
    omega arith

-- the first digit that counts is no zero
many-above : (l : List ℕ) → digits l ≡ true → 15 < length (counted l) → 10 ^ 15 ≤ number 0 l
unfolding digits number counted
many-above [] h k = absurd (omega arith)
many-above (b ∷ r) h k =
    ⊎_elim (λ q. rw (eqb-true b 48 q) (many-above r (and_right (digit b) (digits r) h) (rw q at k))) (λ q. here q (rw q at k)) (decided (eqb b 48))
  where
    here : eqb b 48 ≡ false → 15 < length (b ∷ r) → 10 ^ 15 ≤ number 0 (b ∷ r)
    here q g =
        let low = leb-true 48 b (and_left (leb 48 b) (leb b 57) (and_left (digit b) (digits r) h)) in
        let other = eqb-false b 48 q in
        let long : 15 ≤ length r = omega arith in
        let tail : 10 ^ 15 ≤ 10 ^ length r = pow-le-pow_right (lit< tt) long in
        let once : 1 * 10 ^ length r ≤ (b - 48) * 10 ^ length r = mul-le-mul_right (10 ^ length r) (omega (arith, low, other)) in
        let above : 10 ^ 15 ≤ number (b - 48) r = omega (arith, tail, once, number-least (b - 48) r) in
        let same : 0 * 10 + (b - 48) ≡ b - 48 = omega arith in
        rw same above

-- no more than 15 digits count exactly where the number is below 10^15
pub count-limit : (l : List ℕ) → digits l ≡ true → leb (length (counted l)) 15 ≡ ltb (number 0 l) (10 ^ 15)
count-limit l h =
    ⊎_elim (λ q. q ∙ sym (lt-ltb (number 0 l) (10 ^ 15) (few-below l h (leb-true (length (counted l)) 15 q))))
    (λ q. q ∙ sym (le-ltb (number 0 l) (10 ^ 15) (many-above l h (leb-false (length (counted l)) 15 q))))
    (decided (leb (length (counted l)) 15))

-- ---- what an answer says of the digits

-- from 10^14 on there is no room for a digit more
pub limited-full : (s : List ℕ) (i e m : ℕ) → i < e → e ≤ length s → 99999999999999 < m → limited_of m (slice i e s) ≡ None
unfolding digits number
limited-full s i e m h k q =
    let b = get_or s i 0 in
    let r = slice (i + 1) e s in
    rw (slice-step s i e h k, le-ltb (number (m * 10 + (b - 48)) r) (10 ^ 15) (omega (arith, number-grows (m * 10 + (b - 48)) r)), and-false)

number-kept : (b : Bool) (x n : ℕ) → cond b (Some x) None ≡ Some n → (b ≡ true) × (x ≡ n)
number-kept true x n h = (refl, cc)
number-kept false x n h = no-case cc

lost : (b : Bool) (x : ℕ) → cond b (Some x) None ≡ None → b ≡ false
lost true x h = no-case cc
lost false x h = refl

module _ (m : ℕ) (l : List ℕ) where
  abbrev small : Bool
  small = ltb (number m l) (10 ^ 15)

  pub limited-other : limited_of m l ≡ None → digits l ≡ true → 10 ^ 15 ≤ number m l
  limited-other h d = ltb-false (number m l) (10 ^ 15) (rw d at (lost (digits l && small) (number m l) h))

  module _ (n : ℕ) (h : limited_of m l ≡ Some n) where
    taken : (digits l && small ≡ true) × (number m l ≡ n)
    taken = number-kept (digits l && small) (number m l) n h

    pub limited-digits : digits l ≡ true
    limited-digits = and_left (digits l) small taken.0

    pub limited-below : number m l < 10 ^ 15
    limited-below = ltb-true (number m l) (10 ^ 15) (and_right (digits l) small taken.0)

    pub limited-number : number m l ≡ n
    limited-number = taken.1

-- few digits are below the limit, whatever they are
pub limited-short : (l : List ℕ) → length l ≤ 15 → limited_of 0 l ≡ digits_of 0 l
limited-short l h = ⊎_elim (λ q. rw q (below q)) (λ q. rw q) (decided (digits l))
  where
    below : digits l ≡ true → cond (ltb (number 0 l) (10 ^ 15)) (Some (number 0 l)) None ≡ Some (number 0 l)
    below q = rw (sym (count-limit l q), le-leb (length (counted l)) 15 (le_trans (counted-le l) h))

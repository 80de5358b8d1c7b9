-- Laws on a part of a list, cut at a byte: what `find` shows of the place it gives. Assumes nothing.
use Rattle.std.specs.Prelude.{◌≡◌, refl, true, false, List, [], ◌∷◌, ℕ, suc, ◌+◌, ◌-◌, ◌≤◌, ◌<◌, eqb, length, get_or, take, drop}
use Rattle.std.proofs.Common.{sym, ap, ◌∙◌, ⊎_elim, add-one, arith, take-take, take-add, drop_at, drop-drop, length-take-le, eq-eqb, ne_eqb, eqb-true}
use Rattle.std.proofs.lemmas.List.{drop-take}
use Rattle.std.proofs.Math.Bool.{and-false}
use Rattle.std.proofs.Math.Seq.{slice, slice-cons, slice_empty, length-slice}
use Rattle.real.specs.Tests.{decided, true-false, and_left}
use Rattle.fields.specs.Cut.{empty, only, upto, past, has, pieces, onto, Found}

-- ---- lists that a test tells

pub empty-is : (l : List ℕ) → empty l ≡ true → l ≡ []
empty-is [] h = refl
empty-is (b ∷ r) h = absurd (true-false h refl)

pub only-is : (x : ℕ) (l : List ℕ) → only x l ≡ true → l ≡ x ∷ []
only-is x [] h = absurd (true-false h refl)
only-is x (b ∷ []) h = rw (eqb-true b x (and_left _ _ h))
only-is x (b ∷ c ∷ r) h = absurd (true-false h (and-false (eqb b x)))

-- ---- a part of a list

-- the same part, as the code takes it: `s[a..e]`
pub slice-part : (s : List ℕ) (a e : ℕ) → a ≤ e → take (e - a) (drop a s) ≡ slice a e s
slice-part s a e h = let q : a + (e - a) ≡ e = omega arith in sym (drop-take a (e - a) s) ∙ ap (λ (n : ℕ). slice a n s) q

-- one byte more
pub slice-step : (s : List ℕ) (i e : ℕ) → i < e → e ≤ length s → slice i e s ≡ get_or s i 0 ∷ slice (i + 1) e s
slice-step s i e h k = rw add-one (slice-cons i e s 0 h k)

pub slice-none : (s : List ℕ) (a e : ℕ) → a ≡ e → slice a e s ≡ []
slice-none s a e q = rw q (slice_empty e s)

pub slice-some : (s : List ℕ) (a e : ℕ) → a < e → e ≤ length s → empty (slice a e s) ≡ false
slice-some s a e h k = rw (slice-step s a e h k)

slice_front : (s : List ℕ) (a e n : ℕ) → a ≤ e → e ≤ length s → a + n ≤ e → slice a (a + n) s ≡ take n (slice a e s)
slice_front s a e n h k g =
    ap (drop a) (sym (take-take (a + n) e s g) ∙ take-add a n (take e s))
    ∙ drop_at (take a (take e s)) (take n (drop a (take e s))) a
    (length-take-le a (take e s) (rw (length-take-le e s k) h))

slice_back : (s : List ℕ) (a e n : ℕ) → slice (a + n + 1) e s ≡ drop (suc n) (slice a e s)
slice_back s a e n = let q : a + n + 1 ≡ a + suc n = omega arith in rw q (sym (drop-drop (suc n) a (take e s)))

-- ---- the search for x: a turn and its ends

pub upto-here : (s : List ℕ) (i e x : ℕ) → i < e → e ≤ length s → get_or s i 0 ≡ x → upto x (slice i e s) ≡ []
unfolding upto
upto-here s i e x h k q = rw (slice-step s i e h k, eq-eqb (get_or s i 0) x q)

pub upto-on : (s : List ℕ) (i e x : ℕ) → i < e → e ≤ length s → (get_or s i 0 ≡ x → ⊥) → upto x (slice i e s) ≡ get_or s i 0 ∷ upto x (slice (i + 1) e s)
unfolding upto
upto-on s i e x h k q = rw (slice-step s i e h k, ne_eqb (get_or s i 0) x q)

pub upto-end : (s : List ℕ) (i e x : ℕ) → e ≡ i → upto x (slice i e s) ≡ []
unfolding upto
upto-end s i e x q = rw (q, slice_empty i s)

-- ---- a cut in two

upto_take : (x : ℕ) (l : List ℕ) → take (length (upto x l)) l ≡ upto x l
unfolding upto
upto_take x [] = refl
upto_take x (b ∷ r) =
    ⊎_elim (λ p. rw p) (λ p. rw p (ap (λ (m : List ℕ). b ∷ m) (upto_take x r))) (decided (eqb b x))

past-drop : (x : ℕ) (l : List ℕ) → has x l ≡ true → drop (suc (length (upto x l))) l ≡ past x l
unfolding upto past has
past-drop x [] h = absurd (true-false h refl)
past-drop x (b ∷ r) h =
    ⊎_elim (λ p. rw p) (λ p. rw p (past-drop x r (rw p at h))) (decided (eqb b x))

has-below : (x : ℕ) (l : List ℕ) → has x l ≡ true → length (upto x l) < length l
unfolding upto has
has-below x [] h = absurd (true-false h refl)
has-below x (b ∷ r) h =
    ⊎_elim (λ p. rw p (omega arith)) (λ p. rw p (let g : length (upto x r) < length r = has-below x r (rw p at h) in omega arith)) (decided (eqb b x))

pub has-not : (x : ℕ) (l : List ℕ) → has x l ≡ false → upto x l ≡ l
unfolding upto has
has-not x [] h = refl
has-not x (b ∷ r) h =
    ⊎_elim (λ p. absurd (true-false refl (rw p at h))) (λ p. rw p (ap (λ (m : List ℕ). b ∷ m) (has-not x r (rw p at h)))) (decided (eqb b x))

pub past-none : (x : ℕ) (l : List ℕ) → has x l ≡ false → past x l ≡ []
unfolding past has
past-none x [] h = refl
past-none x (b ∷ r) h =
    ⊎_elim (λ p. absurd (true-false refl (rw p at h))) (λ p. rw p (past-none x r (rw p at h))) (decided (eqb b x))

upto_le : (x : ℕ) (l : List ℕ) → length (upto x l) ≤ length l
upto_le x l = ⊎_elim (λ h. let g = has-below x l h in omega arith) (λ h. rw (has-not x l h) (omega arith)) (decided (has x l))

pieces-hit : (x : ℕ) (l : List ℕ) → has x l ≡ true → pieces x l ≡ upto x l ∷ pieces x (past x l)
unfolding upto past has pieces
pieces-hit x [] h = absurd (true-false h refl)
pieces-hit x (b ∷ r) h = ⊎_elim (λ p. rw p) (λ p. rw p (ap (onto b) (pieces-hit x r (rw p at h)))) (decided (eqb b x))

pieces_none : (x : ℕ) (l : List ℕ) → has x l ≡ false → pieces x l ≡ l ∷ []
unfolding has pieces
pieces_none x [] h = refl
pieces_none x (b ∷ r) h =
    ⊎_elim (λ p. absurd (true-false refl (rw p at h))) (λ p. rw p (ap (onto b) (pieces_none x r (rw p at h)))) (decided (eqb b x))

-- ---- the record that `find` gives

module _ (s : List ℕ) (a e x : ℕ) (h : a ≤ e) (k : e ≤ length s) where
  at_most : a + length (upto x (slice a e s)) ≤ e
  at_most = omega (arith, upto_le x (slice a e s), length-slice a e s k)

  found-hit : a + length (upto x (slice a e s)) < e → has x (slice a e s) ≡ true
  found-hit g = ⊎_elim (λ t. t) (λ t. absurd (omega (arith, ap length (has-not x (slice a e s) t), length-slice a e s k))) (decided (has x (slice a e s)))

  found_none : e ≤ a + length (upto x (slice a e s)) → has x (slice a e s) ≡ false
  found_none g = ⊎_elim (λ t. absurd (omega (arith, has-below x (slice a e s) t, length-slice a e s k))) (λ t. t) (decided (has x (slice a e s)))

  found_front : slice a (a + length (upto x (slice a e s))) s ≡ upto x (slice a e s)
  found_front = slice_front s a e (length (upto x (slice a e s))) h k at_most ∙ upto_take x (slice a e s)

  found_back : a + length (upto x (slice a e s)) < e → slice (a + length (upto x (slice a e s)) + 1) e s ≡ past x (slice a e s)
  found_back g = slice_back s a e (length (upto x (slice a e s))) ∙ past-drop x (slice a e s) (found-hit g)

  found_at : Found s a e x (a + length (upto x (slice a e s)))
  found_at = record {
    place = refl;
    low = omega arith;
    high = at_most;
    front = found_front;
    back = found_back;
    hit = found-hit;
    none = found_none;
    more = λ g. rw (found_front, found_back g) (pieces-hit x (slice a e s) (found-hit g));
    last = λ g. rw found_front (rw (has-not x (slice a e s) (found_none g)) (pieces_none x (slice a e s) (found_none g)));
  }

  pub found : (p : ℕ) → p ≡ a + length (upto x (slice a e s)) → Found s a e x p
  found p q = rw q found_at

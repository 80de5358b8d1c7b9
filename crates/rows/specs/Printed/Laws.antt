-- No byte of an accepted section is skipped: it is its rows, printed; what it answers is how many they are; and each field is good.
-- Of its lines it is proved here, of the section's bytes in proofs/Printed.
-- Assumes nothing.
use Rattle.std.specs.Prelude.{◌≡◌, refl, Bool, true, false, cond, eqb, leb, get_or, Ok, Err}
use Rattle.std.proofs.Common.{sym, ap, ◌∙◌, not-suc-le-zero, le_of_suc-le-suc, zero-add, eqb-true, leb-false}
use Rattle.std.proofs.Math.Bool.{and-false}
use Rattle.std.proofs.Math.Logic.{⊎_elim}
use mathlib.Core.List.{List, [], ◌∷◌, ◌++◌, map}
use Prim.Native.Nat.{ℕ, zero, suc, ◌+◌, ◌≤◌, ◌<◌}
use native.Mathlib.Omega.{arith}
use Rattle.std.proofs.Math.Nat.{add-zero}
use Rattle.std.proofs.Math.ListN.{length}
use Rattle.fields.specs.Cut.{empty, only, pieces, onto}
use Rattle.fields.specs.Cut.Laws.{empty-is, only-is}
use Rattle.fields.specs.Real.{DigitRule, allowed}
use Rattle.real.specs.Tests.{decided, true-false, no-case, and_left, and_right}
use Rattle.rows.specs.Asked.{section_letter, field_count, size_of, want_of, good_by}
use Rattle.rows.specs.Line.{LineCheck, all_some, form_of, fields_by, line_by, line_of, tail}
use Rattle.rows.specs.Rows.{after, section_by, section_of, check_by, ended, rows_of}
use Rattle.rows.specs.Rows.Laws.{pieces-some}
use Rattle.rows.specs.Printed.{spread, fields_in, field_table, printed}
use Rattle.rows.specs.declared.Section.{Section}
use Rattle.rows.specs.declared.Fault.{Fault}
use Rattle.rows.specs.Rows.{Check}

-- ---- the pieces between the x's, and the x's, are the list

abbrev pub join : ℕ → List (List ℕ) → List ℕ
join x [] = []
join x (p ∷ ps) = p ++ spread x ps

join-onto : (x b : ℕ) (ps : List (List ℕ)) → join x (onto b ps) ≡ b ∷ join x ps
unfolding spread
join-onto x b [] = refl
join-onto x b (p ∷ ps) = refl

open-join : (x : ℕ) (ps : List (List ℕ)) → empty ps ≡ false → spread x ps ≡ x ∷ join x ps
unfolding spread
open-join x [] h = absurd (true-false refl h)
open-join x (p ∷ ps) h = refl

pub join-pieces : (x : ℕ) (l : List ℕ) → join x (pieces x l) ≡ l
unfolding pieces spread
join-pieces x [] = refl
join-pieces x (b ∷ r) =
    ⊎_elim
    (λ p. rw p (open-join x (pieces x r) (pieces-some x r) ∙ rw (join-pieces x r, eqb-true b x p)))
    (λ p. rw p (join-onto x b (pieces x r) ∙ ap (λ (m : List ℕ). b ∷ m) (join-pieces x r)))
    (decided (eqb b x))

-- ---- a line

formed : (z : Section) (ps : List (List ℕ)) → form_of z ps ≡ true → join 32 ps ≡ section_letter z ∷ spread 32 (tail ps)
formed z [] h = absurd (true-false h refl)
formed z (f ∷ fs) h = rw (only-is (section_letter z) f (and_left _ _ h))

-- a line whose form is good is its letter and its fields, one space before each
pub line-printed : (z : Section) (l : List ℕ) → form_of z (pieces 32 l) ≡ true → l ≡ section_letter z ∷ spread 32 (fields_in l)
line-printed z l h = sym (join-pieces 32 l) ∙ formed z (pieces 32 l) h

-- ---- what a good answer says of the tests on the way

never : {A B : Type 0} (f : Fault) (n : B) → Err f ≡ Ok n → A
never f n h = no-case cc

after-rest : (v : LineCheck) (w : Check) (n : ℕ) → after v w ≡ Ok n → w ≡ Ok n
after-rest (Ok _) w n h = h
after-rest (Err f) w n h = never f n h

after_first_lem : (v : LineCheck) (w : Check) (n : ℕ) → after v w ≡ Ok n → v ≡ Ok tt
after_first_lem (Ok _) w n h = refl
after_first_lem (Err f) w n h = never f n h

line-form : (rule : DigitRule) (z : Section) (at : ℕ) (l : List ℕ) (w : Check) (n : ℕ) → after (line_by rule z at l) w ≡ Ok n → form_of z (pieces 32 l) ≡ true
line-form rule z at l w n h =
    ⊎_elim (λ p. p) (λ p. never (Fault.Form at) n (rw p at h)) (decided (form_of z (pieces 32 l)))

neither : {A : Type 0} (b : Bool) (at n : ℕ) → cond b (Err (Fault.Rows at)) (Err (Fault.Form at)) ≡ Ok n → A
neither true at n h = never (Fault.Rows at) n h
neither false at n h = never (Fault.Form at) n h

counted : (z : Section) (ps : List (List ℕ)) → form_of z ps ≡ true → length (tail ps) ≡ field_count z
counted z [] h = absurd (true-false h refl)
counted z (f ∷ fs) h = rw (zero-add (length fs)) at (eqb-true (0 + length fs) (field_count z) (and_right (all_some fs) _ (and_right (only (section_letter z) f) _ h)))

-- ---- a section

pub lines-printed : (z : Section) (r at : ℕ) (ps : List (List ℕ)) (n : ℕ) → empty ps ≡ false → section_of z r at ps ≡ Ok n
    → join 10 ps ≡ printed z (map fields_in (ended ps))
unfolding section_by ended printed spread
lines-printed z r at [] n g h = absurd (true-false refl g)
lines-printed z r at (l ∷ []) n g h =
    ⊎_elim (λ p. rw (empty-is l p))
    (λ p. neither (leb (size_of z) r) at n (rw p at h))
    (decided (empty l))
lines-printed z r at (l ∷ m ∷ ms) n g h =
    let k = rw (and-false (empty l)) at h in
    ⊎_elim (λ q. never (Fault.Rows at) n (rw q at k))
    (λ q. let v = rw q at k in
    ap (λ (x : List ℕ). x ++ (10 ∷ join 10 (m ∷ ms))) (line-printed z l (line-form allowed z at l _ n v))
    ∙ ap (λ (x : List ℕ). section_letter z ∷ (spread 32 (fields_in l) ++ (10 ∷ x)))
    (lines-printed z (r + 1) (at + length l + 1) (m ∷ ms) n refl (after-rest (line_of z at l) _ n v)))
    (decided (leb (size_of z) r))

good-is : (m n : ℕ) → ◌≡◌ {A = Check} (Ok m) (Ok n) → n ≡ m
good-is m n h = cc

pub lines-count : (z : Section) (r at : ℕ) (ps : List (List ℕ)) (n : ℕ) → empty ps ≡ false → section_of z r at ps ≡ Ok n → n ≡ r + length (ended ps)
unfolding section_by ended
lines-count z r at [] n g h = absurd (true-false refl g)
lines-count z r at (l ∷ []) n g h =
    ⊎_elim (λ p. let e = good-is r n (rw p at h) in omega arith) (λ p. neither (leb (size_of z) r) at n (rw p at h)) (decided (empty l))
lines-count z r at (l ∷ m ∷ ms) n g h =
    let k = rw (and-false (empty l)) at h in
    ⊎_elim (λ q. never (Fault.Rows at) n (rw q at k))
    (λ q. let e = lines-count z (r + 1) (at + length l + 1) (m ∷ ms) n refl (after-rest (line_of z at l) _ n (rw q at k)) in omega arith)
    (decided (leb (size_of z) r))

pub lines-most : (z : Section) (r at : ℕ) (ps : List (List ℕ)) (n : ℕ) → empty ps ≡ false → r ≤ size_of z → section_of z r at ps ≡ Ok n → n ≤ size_of z
unfolding section_by
lines-most z r at [] n g b h = absurd (true-false refl g)
lines-most z r at (l ∷ []) n g b h =
    ⊎_elim (λ p. let e = good-is r n (rw p at h) in omega arith) (λ p. neither (leb (size_of z) r) at n (rw p at h)) (decided (empty l))
lines-most z r at (l ∷ m ∷ ms) n g b h =
    let k = rw (and-false (empty l)) at h in
    ⊎_elim (λ q. never (Fault.Rows at) n (rw q at k))
    (λ q. lines-most z (r + 1) (at + length l + 1) (m ∷ ms) n refl (let e = leb-false (size_of z) r q in omega arith) (after-rest (line_of z at l) _ n (rw q at k)))
    (decided (leb (size_of z) r))

-- ---- every field of an accepted section is good, by any digit rule

module _ (rule : DigitRule) where
  -- a row has its section's fields, each of them what is asked
  pub record SoundBy (z : Section) (fs : List (List ℕ)) : Type 0 where
    pub count : length fs ≡ field_count z
    pub good : (j : ℕ) → j < length fs → good_by rule (want_of z j) (get_or fs j []) ≡ true

  fields-good : (z : Section) (j at : ℕ) (fs : List (List ℕ)) → fields_by rule z j at fs ≡ Ok tt → (i : ℕ) → i < length fs
      → good_by rule (want_of z (j + i)) (get_or fs i []) ≡ true
  unfolding fields_by
  fields-good z j at [] h i k = absurd (not-suc-le-zero k)
  fields-good z j at (f ∷ fs) h zero k =
      ⊎_elim (λ q. rw add-zero q) (λ q. never (Fault.Field at) tt (rw q at h)) (decided (good_by rule (want_of z j) f))
  fields-good z j at (f ∷ fs) h (suc i) k =
      ⊎_elim
      (λ q. let e : j + suc i ≡ j + 1 + i = omega arith in rw e (fields-good z (j + 1) (at + length f + 1) fs (rw q at h) i (le_of_suc-le-suc k)))
      (λ q. never (Fault.Field at) tt (rw q at h))
      (decided (good_by rule (want_of z j) f))

  line-fields : (z : Section) (at : ℕ) (l : List ℕ) → form_of z (pieces 32 l) ≡ true → line_by rule z at l ≡ Ok tt
      → fields_by rule z 0 (at + 2) (fields_in l) ≡ Ok tt
  line-fields z at l g h = rw g at h

  line-sound : (z : Section) (at : ℕ) (l : List ℕ) (w : Check) (n : ℕ) → after (line_by rule z at l) w ≡ Ok n → SoundBy z (fields_in l)
  line-sound z at l w n h =
      let g = line-form rule z at l w n h in
      let m = after_first_lem (line_by rule z at l) w n h in
      record {
        count = counted z (pieces 32 l) g;
        good = λ j k. rw (zero-add j) at (fields-good z 0 (at + 2) (fields_in l) (line-fields z at l g m) j k);
      }

  lines-sound : (z : Section) (r at : ℕ) (ps : List (List ℕ)) (n : ℕ) → section_by rule z r at ps ≡ Ok n → (k : ℕ) → k < length (ended ps)
      → SoundBy z (get_or (map fields_in (ended ps)) k [])
  unfolding section_by ended
  lines-sound z r at [] n h k i = absurd (not-suc-le-zero i)
  lines-sound z r at (l ∷ []) n h k i = absurd (not-suc-le-zero i)
  lines-sound z r at (l ∷ m ∷ ms) n h zero i =
      let u = rw (and-false (empty l)) at h in
      ⊎_elim (λ q. never (Fault.Rows at) n (rw q at u)) (λ q. line-sound z at l _ n (rw q at u)) (decided (leb (size_of z) r))
  lines-sound z r at (l ∷ m ∷ ms) n h (suc k) i =
      let u = rw (and-false (empty l)) at h in
      ⊎_elim (λ q. never (Fault.Rows at) n (rw q at u))
      (λ q. lines-sound z (r + 1) (at + length l + 1) (m ∷ ms) n (after-rest (line_by rule z at l) _ n (rw q at u)) k (le_of_suc-le-suc i))
      (decided (leb (size_of z) r))

  -- row k of an accepted section is sound
  pub section-sound : (z : Section) (at : ℕ) (l : List ℕ) (n : ℕ) → check_by rule z at l ≡ Ok n → (k : ℕ) → k < length (rows_of l) → SoundBy z (get_or (field_table l) k [])
  section-sound z at l n h k i = lines-sound z 0 at (pieces 10 l) n h k i

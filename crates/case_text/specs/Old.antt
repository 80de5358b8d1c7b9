-- 02, Ask 3: "An old reader must refuse every such text and never read a value from it." The old reader is the first edition's, by any digit rule. Assumes nothing.
use Rattle.std.specs.Prelude.{◌≡◌, true, cond, List, ◌∷◌, ℕ, zero, suc, ◌+◌, ◌≤◌, ◌<◌, eqb, length, get_or, Ok, Err}
use Rattle.std.proofs.Math.Path.{refl}
use Rattle.std.proofs.Math.Bool.{false}
use Rattle.std.proofs.Math.Logic.{⊎_elim}
use Rattle.std.proofs.Common.{add-zero, arith, eqb-true, ltb-false}
use Rattle.std.proofs.Math.Dec.{ltb}
use Rattle.std.proofs.Math.Seq.{slice}
use Rattle.real.specs.Tests.{decided, no-case, true-false, and_left, and_right}
use Rattle.network.specs.Network.{Network, room_of}
use Rattle.fields.specs.Real.{DigitRule}
use Rattle.fields.specs.Digits.{digit, digits}
use Rattle.fields.specs.Cut.Laws.{slice-step}
use Rattle.trailer.specs.Trailer.{trailer_length, trailer_start, flagged, edition_of, trailer_of}
use Rattle.trailer.specs.Trailer.Laws.{good-trailer, first_group, second-tells}
use Rattle.trailer.specs.declared.Edition.{Edition}
use Rattle.trailer.specs.declared.Edition.TheVariants.{First, Second}
use Rattle.case_text.specs.Text.{Reading, after_length, text_by}
use Rattle.case_text.specs.Answer.{read_result, paper_of, with_room, result_of, tables_by, read_first_by}
use Rattle.case_text.specs.Printed.Laws.{group-digits}
use Rattle.case_text.specs.declared.Contents.{Contents}
use Rattle.case_text.specs.declared.Refusal.{Refusal}

-- ---- a byte 32 from the end that is `f` or `c` stands where a first-edition trailer has a digit

-- each of several digits is one
each-digit : (k i e : ℕ) (s : List ℕ) → e ≤ length s → i + k < e → digits (slice i e s) ≡ true → digit (get_or s (i + k) 0) ≡ true
unfolding digits
each-digit zero i e s room h q =
    let first : digits (get_or s i 0 ∷ slice (i + 1) e s) ≡ true = rw (slice-step s i e (omega arith) room) at q in
    rw add-zero (and_left (digit (get_or s i 0)) (digits (slice (i + 1) e s)) first)
each-digit (suc k) i e s room h q =
    let all : digits (get_or s i 0 ∷ slice (i + 1) e s) ≡ true = rw (slice-step s i e (omega arith) room) at q in
    let on : i + 1 + k ≡ i + suc k = omega arith in
    rw on at (each-digit k (i + 1) e s room (omega arith) (and_right (digit (get_or s i 0)) (digits (slice (i + 1) e s)) all))

-- neither letter is a digit
not_digit : (b : ℕ) → flagged Second b ≡ true → digit b ≡ false
not_digit b h = ⊎_elim (λ q. rw (eqb-true b 102 q)) (λ q. other (rw q at h)) (decided (eqb b 102))
  where
    other : eqb b 99 ≡ true → digit b ≡ false
    other q = rw (eqb-true b 99 q)

module _ (s : List ℕ) (second : edition_of s ≡ Second) where
  no-trailer : trailer_length First ≤ length s → trailer_of First s (trailer_start First s) ≡ false
  no-trailer long = ⊎_elim (λ q. absurd (good q)) (λ q. q) (decided (trailer_of First s (trailer_start First s)))
    where
      t : ℕ
      t = trailer_start First s

      good : trailer_of First s t ≡ true → ⊥
      good q =
          let number = (first_group 5 s (t + 1) 0 t (good-trailer First s t q).groups_rise).number in
          let place : t + 1 + 1 + 4 ≡ trailer_start Second s = omega arith in
          let last = each-digit 4 (t + 1 + 1) (t + 1 + 6) s (omega arith) (omega arith) (group-digits s (t + 1) number) in
          true-false (rw place at last) (not_digit (get_or s (trailer_start Second s) 0) (second-tells s second).1)

  -- ---- so the old reader gives refusal 1 or 2, and touches no column

  -- its length, or 32,768, with refusal 1, or the place of the trailer that is not there with refusal 2
  pub data OldRefusal : Reading → Type 0 where
    too_short : OldRefusal (Err (Refusal.Length (length s)))
    too_long : OldRefusal (Err (Refusal.Length 32768))
    untrailed : OldRefusal (Err (Refusal.Trailer (trailer_start First s)))

  pub old-refuses : (rule : DigitRule) → OldRefusal (text_by rule First s)
  unfolding text_by
  old-refuses rule = ⊎_elim (λ q. rw q too_short) long (decided (ltb (length s) (trailer_length First)))
    where
      fits : ltb 32768 (length s) ≡ false → ltb (length s) (trailer_length First) ≡ false → OldRefusal (cond (ltb 32768 (length s)) (Err (Refusal.Length 32768)) (after_length rule First s (trailer_start First s)))
      fits r q = rw (r, no-trailer (ltb-false (length s) (trailer_length First) q)) untrailed

      long : ltb (length s) (trailer_length First) ≡ false → OldRefusal (cond (ltb (length s) (trailer_length First)) (Err (Refusal.Length (length s))) (cond (ltb 32768 (length s)) (Err (Refusal.Length 32768)) (after_length rule First s (trailer_start First s))))
      long q = rw q (⊎_elim (λ r. rw r too_long) (λ r. fits r q) (decided (ltb 32768 (length s))))

  pub old-reads-nothing : (rule : DigitRule) (old : Network) → read_first_by rule s old ≡ read_result (paper_of (text_by rule First s)) old
  unfolding read_first_by
  old-reads-nothing rule old = go (text_by rule First s) (old-refuses rule)
    where
      go : (v : Reading) → OldRefusal v → result_of (with_room v (room_of old)) (tables_by rule s (trailer_start First s) old) old ≡ read_result (paper_of v) old
      go _ too_short = refl
      go _ too_long = refl
      go _ untrailed = refl

-- a text that the old reader accepts is of the first edition
not_good : (s : List ℕ) (second : edition_of s ≡ Second) (v : Reading) → OldRefusal s second v → (c : Contents) → v ≡ Ok c → ⊥
not_good s second _ too_short c e = no-case cc
not_good s second _ too_long c e = no-case cc
not_good s second _ untrailed c e = no-case cc

pub accepted-first : (rule : DigitRule) (s : List ℕ) (c : Contents) → text_by rule First s ≡ Ok c → edition_of s ≡ First
accepted-first rule s c h = go (edition_of s) refl
  where
    go : (e : Edition) → edition_of s ≡ e → e ≡ First
    go First q = refl
    go Second q = absurd (not_good s q _ (old-refuses s q rule) c h)

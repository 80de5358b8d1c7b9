-- What an accepted text has: each check's answer on the way. Assumes nothing.
use Rattle.std.specs.Prelude.{◌≡◌, refl, true, false, cond, List, ℕ, ◌-◌, ◌≤◌, ◌<◌, eqb, ltb, length, get_or, Ok, Err}
use Rattle.std.proofs.Common.{true≢false}
use Rattle.std.proofs.Math.Logic.{⊎_elim}
use Rattle.std.proofs.Math.Seq.{slice}
use borrow.Author.Tests.{lt-ltb, le-ltb, ltb-false}
use Rattle.real.specs.Tests.{decided}
use Rattle.real.specs.Paper.{Paper, given, refused}
use Rattle.fields.specs.Real.{DigitRule, allowed}
use Rattle.rows.specs.declared.Section.TheVariants as Section
use Rattle.rows.specs.declared.Fault.{Fault}
use Rattle.rows.specs.Rows.{Check}
use Rattle.case_text.specs.Alphabet.{known_of}
use Rattle.trailer.specs.Trailer.{trailer_length, trailer_start, mode_of, trailer_of, behind_g}
use Rattle.trailer.specs.declared.Edition.{Edition}
use Rattle.case_text.specs.Text.{Reading, then_section, part_by, triplet_part_by, after_y, after_l, after_g, after_r, after_b, body_by, body_of, after_trailer, after_length, text_by, checked_text}
use Rattle.case_text.specs.Answer.{paper_of}
use Rattle.case_text.specs.declared.Contents.{Contents}
use Rattle.case_text.specs.declared.Refusal.{Refusal}

-- P of the tables, where there are any; a refusal is not 9
abbrev pub Where : (Contents → Type 0) → Paper Contents → Type 0
Where P (given c) = P c
Where P (refused number values) = eqb number 9 ≡ false

on : (P Q : Contents → Type 0) (p : Paper Contents) → ((c : Contents) → P c → Q c) → Where P p → Where Q p
on P Q (given c) f h = f c h
on P Q (refused number values) f h = h

sections : (P : Contents → Type 0) (v : Check) (k : ℕ → Reading) → ((n : ℕ) → v ≡ Ok n → Where P (paper_of (k n))) → Where P (paper_of (then_section v k))
sections P (Ok n) k h = h n refl
sections P (Err (Fault.Rows n)) k h = refl
sections P (Err (Fault.Form n)) k h = refl
sections P (Err (Fault.Field n)) k h = refl

-- ---- by any digit rule, and any edition's rules

module _ (rule : DigitRule) (e : Edition) where
  -- each section of the body is good, and its rows are counted
  pub record BodyBy (s : List ℕ) (t : ℕ) (c : Contents) : Type 0 where
    pub edition : c.edition ≡ e
    pub start : c.start ≡ mode_of e (get_or s t 0)
    pub buses : part_by rule Section.B s t ≡ Ok c.rows.buses
    pub slacks : part_by rule Section.R s t ≡ Ok c.rows.slacks
    pub generators : part_by rule Section.G s t ≡ Ok c.rows.generators
    pub branches : part_by rule (behind_g e) s t ≡ Ok c.rows.branches
    pub triplets : triplet_part_by rule e s t ≡ Ok c.rows.triplets

  pub record AcceptedBy (s : List ℕ) (t : ℕ) (c : Contents) : Type 0 where
    pub least : trailer_length e ≤ length s
    pub most : length s ≤ 32768
    pub trailer : trailer_of e s t ≡ true
    pub known : t ≤ known_of e (slice 0 t s)
    pub body : BodyBy s t c

  module _ (s : List ℕ) (t : ℕ) where
    body-sound : Where (BodyBy s t) (paper_of (body_by rule e s t))
    unfolding body_by
    body-sound =
        let P = BodyBy s t in
        sections P (part_by rule Section.B s t) (after_b rule e s t) (λ nb b.
        sections P (part_by rule Section.R s t) (after_r rule e s t nb) (λ nr r.
        sections P (part_by rule Section.G s t) (after_g rule e s t nb nr) (λ ng g.
        sections P (part_by rule (behind_g e) s t) (after_l rule e s t nb nr ng) (λ nl l.
        sections P (triplet_part_by rule e s t) (after_y e s t nb nr ng nl) (λ ny y.
        record { edition = refl; start = refl; buses = b; slacks = r; generators = g; branches = l; triplets = y })))))

    module _ (low : trailer_length e ≤ length s) (high : length s ≤ 32768) where
      known-sound : trailer_of e s t ≡ true → Where (AcceptedBy s t) (paper_of (after_trailer rule e s t))
      known-sound w =
          ⊎_elim (λ q. rw q)
          (λ q. rw q (on (BodyBy s t) (AcceptedBy s t) (paper_of (body_by rule e s t)) (λ c b. record { least = low; most = high; trailer = w; known = ltb-false (known_of e (slice 0 t s)) t q; body = b }) body-sound))
          (decided (ltb (known_of e (slice 0 t s)) t))

      trailer-sound : Where (AcceptedBy s t) (paper_of (after_length rule e s t))
      trailer-sound = ⊎_elim (λ q. rw q (known-sound q)) (λ q. rw q) (decided (trailer_of e s t))

  module _ (s : List ℕ) where
    most-sound : trailer_length e ≤ length s
        → Where (AcceptedBy s (trailer_start e s)) (paper_of (cond (ltb 32768 (length s)) (Err (Refusal.Length 32768)) (after_length rule e s (trailer_start e s))))
    most-sound h = ⊎_elim (λ q. rw q) (λ q. rw q (trailer-sound s (trailer_start e s) h (ltb-false 32768 (length s) q))) (decided (ltb 32768 (length s)))

    pub sound-by : Where (AcceptedBy s (trailer_start e s)) (paper_of (text_by rule e s))
    unfolding text_by
    sound-by = ⊎_elim (λ q. rw q) (λ q. rw q (most-sound (ltb-false (length s) (trailer_length e) q))) (decided (ltb (length s) (trailer_length e)))

    pub has-by : (c : Contents) → text_by rule e s ≡ Ok c → AcceptedBy s (trailer_start e s) c
    has-by c h = rw h at sound-by

-- ---- by 02's digit rule

abbrev pub Body : Edition → List ℕ → ℕ → Contents → Type 0
Body = BodyBy allowed

abbrev pub Accepted : Edition → List ℕ → ℕ → Contents → Type 0
Accepted = AcceptedBy allowed

module _ (e : Edition) (s : List ℕ) where
  pub text-sound : Where (Accepted e s (trailer_start e s)) (paper_of (checked_text e s))
  text-sound = sound-by allowed e s

  pub accepted-has : (c : Contents) → checked_text e s ≡ Ok c → Accepted e s (trailer_start e s) c
  accepted-has = has-by allowed e s

  -- refusal 9 is none of the text's
  pub never-room : checked_text e s ≡ Err Refusal.Room → ⊥
  never-room h = true≢false (rw h at text-sound)

-- ---- each way out of the check; w is the trailer's length

module _ (e : Edition) (s : List ℕ) (w : ℕ) (is : w ≡ trailer_length e) where
  pub text-short : length s < w → Err (Refusal.Length (length s)) ≡ checked_text e s
  unfolding text_by
  text-short h = rw (← is, lt-ltb _ _ h)

  module _ (low : w ≤ length s) where
    pub text-long : 32768 < length s → Err (Refusal.Length 32768) ≡ checked_text e s
    unfolding text_by
    text-long h = rw (← is, le-ltb _ _ low, lt-ltb _ _ h)

    module _ (high : length s ≤ 32768) where
      pub text-untrailed : trailer_of e s (length s - w) ≡ false → Err (Refusal.Trailer (length s - w)) ≡ checked_text e s
      unfolding text_by
      text-untrailed h = rw (← is, le-ltb _ _ low, le-ltb _ _ high, h)

      module _ (good : trailer_of e s (length s - w) ≡ true) (p : ℕ) (first : p ≡ known_of e (slice 0 (length s - w) s)) where
        pub text-strange : p < length s - w → Err (Refusal.Byte p) ≡ checked_text e s
        unfolding text_by
        text-strange h = rw (← is, le-ltb _ _ low, le-ltb _ _ high, good, ← first, lt-ltb _ _ h)

        pub text-body : length s - w ≤ p → (v : Reading) → v ≡ body_of e s (length s - w) → v ≡ checked_text e s
        unfolding text_by
        text-body h v q = rw (← is, le-ltb _ _ low, le-ltb _ _ high, good, ← first, le-ltb _ _ h) q

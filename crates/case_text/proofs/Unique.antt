-- What a reader's contract settles: two outcomes that meet it are equal, columns included; it accepts exactly what the definition accepts, and
-- then writes the definition's values; otherwise the columns are as they were. Assumes nothing.
use Rattle.std.specs.Prelude.{Ok, Err}
use mathlib.Core.Path.{◌≡◌, refl, sym, ap, ◌∙◌}
use mathlib.Core.Bool.{true, cond}
use mathlib.Core.Logic.{◌↔◌}
use mathlib.Core.List.{List}
use Prim.Native.Nat.{ℕ}
use lib.Dec.{eqb}
use Rattle.real.specs.Paper.{Paper, given, refused, place_in, on_given}
use Rattle.network.specs.declared.Rows.{Rows}
use Rattle.network.specs.Network.{fits_of}
use Rattle.trailer.specs.declared.Edition.{Edition}
use Rattle.case_text.specs.Text.{Reading, checked_text}
use Rattle.case_text.specs.Answer.{paper_of, judged_of, ReadResult, read_result, result_of}
use Rattle.case_text.specs.Answer.Laws.{with_room_lem}
use Rattle.case_text.specs.declared.Contents.{Contents}
use Rattle.case_text.specs.declared.Refusal.{Refusal}

-- ---- 01's number and values tell the answers apart

abbrev numbered : ℕ → ℕ → Reading
numbered n at =
    cond (eqb n 1) (Err (Refusal.Length at))
    (cond (eqb n 2) (Err (Refusal.Trailer at))
    (cond (eqb n 3) (Err (Refusal.Byte at))
    (cond (eqb n 6) (Err (Refusal.Rows at))
    (cond (eqb n 4) (Err (Refusal.Form at))
    (cond (eqb n 5) (Err (Refusal.Field at)) (Err Refusal.Room))))))

abbrev back : Paper Contents → Reading
back (given c) = Ok c
back (refused n values) = numbered n (place_in values)

back-paper : (r : Reading) → back (paper_of r) ≡ r
back-paper (Ok c) = refl
back-paper (Err (Refusal.Length at)) = refl
back-paper (Err (Refusal.Trailer at)) = refl
back-paper (Err (Refusal.Byte at)) = refl
back-paper (Err (Refusal.Rows at)) = refl
back-paper (Err (Refusal.Form at)) = refl
back-paper (Err (Refusal.Field at)) = refl
back-paper (Err Refusal.Room) = refl

pub paper-tells : (r₁ r₂ : Reading) → paper_of r₁ ≡ paper_of r₂ → r₁ ≡ r₂
paper-tells r₁ r₂ h = sym (back-paper r₁) ∙ ap back h ∙ back-paper r₂

abbrev answer : {T : Type 0} → ReadResult T → Paper Contents
answer (read_result p c) = p

abbrev left : {T : Type 0} → ReadResult T → T
left (read_result p c) = c

-- ---- two outcomes that meet a reader's contract are equal, lent memory included

pub one-result : {T : Type 0} (x : ReadResult T) (r₁ r₂ : Reading) (new₁ new₂ : T) → read_result (paper_of r₁) new₁ ≡ x → read_result (paper_of r₂) new₂ ≡ x
    → (r₁ ≡ r₂) × (new₁ ≡ new₂)
one-result x r₁ r₂ new₁ new₂ h k = let e = h ∙ sym k in (paper-tells r₁ r₂ (ap answer e), ap left e)

-- ---- what a reading by an edition's rules accepts, and what it leaves

left_alone : {T : Type 0} (p : Paper Contents) (new old : T) → ((c : Contents) → p ≡ given c → ⊥) → on_given p (λ c. new) old ≡ old
left_alone (given c) new old h = absurd (h c refl)
left_alone (refused number values) new old h = refl

module _ {T : Type 0} (e : Edition) (s : List ℕ) (m : Rows) (filled old new : T) (r : Reading) (h : read_result (paper_of r) new ≡ result_of (judged_of e s m) filled old) where
  -- the answer is the definition's
  answer-is : r ≡ judged_of e s m
  answer-is = paper-tells r (judged_of e s m) (ap answer h)

  -- accepted if and only if the definition accepts the text and its rows fit
  pub accepts : (c : Contents) → (r ≡ Ok c) ↔ ((checked_text e s ≡ Ok c) × (fits_of c.rows m ≡ true))
  accepts c = (λ k. with_room_lem (checked_text e s) m c (sym answer-is ∙ k), λ k. answer-is ∙ rw (k.0, k.1))

  -- and then the places written are the definition's values
  pub writes : (c : Contents) → r ≡ Ok c → new ≡ filled
  writes c k = ap left h ∙ ap (λ (v : Reading). left (result_of v filled old)) (sym answer-is ∙ k)

  -- a refusal leaves every column untouched
  pub refusal-writes-nothing : ((c : Contents) → r ≡ Ok c → ⊥) → new ≡ old
  refusal-writes-nothing k =
      ap left h ∙ ap (λ (v : Reading). left (result_of v filled old)) (sym answer-is) ∙ left_alone (paper_of r) filled old (λ c q. k c (paper-tells r (Ok c) q))

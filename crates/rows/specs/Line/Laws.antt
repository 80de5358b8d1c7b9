-- A line's turns: the search for the next space gives the next field, of the form and of the fields. Assumes nothing.
use Rattle.rows.specs.declared.Fault.{Fault}
use Rattle.std.specs.Prelude.{◌≡◌, refl, Bool, true, false, List, [], ◌∷◌, eqb, Ok, Err}
use Rattle.std.proofs.Common.{sym, ap, ◌∙◌}
use Rattle.std.proofs.Math.Bool.{and-false}
use Rattle.std.proofs.Math.Logic.{⊎_elim}
use Prim.Native.Nat.{ℕ, suc, ◌+◌, ◌≤◌, ◌<◌}
use native.Mathlib.Omega.{arith}
use Rattle.std.proofs.Math.ListN.{length}
use Rattle.std.proofs.Math.Seq.{slice, length-slice}
use Rattle.fields.specs.Cut.{empty, only, upto, pieces, Found}
use Rattle.real.specs.Tests.{true-false, and_left, below_or}
use Rattle.fields.specs.Cut.Laws.{only-is, found, slice-some, slice-none}
use Rattle.rows.specs.Asked.{section_letter, want_of, good_of}
use Rattle.rows.specs.Line.{all_some, spaced_of, form_of, fields_by, fields_of, tail}
use Rattle.rows.specs.declared.Section.{Section}
use Rattle.rows.specs.declared.Want.{Want}

-- ---- the form

module _ (s : List ℕ) (i e q k n : ℕ) (h : e ≤ length s) (f : Found s i e 32 q) where
  pub spaced-empty : q ≡ i → spaced_of k n (pieces 32 (slice i e s)) ≡ false
  unfolding all_some
  spaced-empty g = ⊎_elim (λ w. rw (f.more w, slice-none s i q (sym g))) (λ w. rw (f.last w, slice-none s i q (sym g))) (below_or q e)

  module _ (g : i < q) where
    here : empty (slice i q s) ≡ false
    here = slice-some s i q g (omega (arith, f.high))

    pub spaced-last : e ≤ q → spaced_of k n (pieces 32 (slice i e s)) ≡ eqb (k + 1) n
    unfolding all_some
    spaced-last w = rw (f.last w, here)

    pub spaced-on : q < e → spaced_of k n (pieces 32 (slice i e s)) ≡ spaced_of (k + 1) n (pieces 32 (slice (q + 1) e s))
    unfolding all_some
    spaced-on w =
        let fs = pieces 32 (slice (q + 1) e s) in
        let v : k + suc (length fs) ≡ k + 1 + length fs = omega arith in
        rw (f.more w, here, v)

pub no_fields : (z : Section) (f : List ℕ) → form_of z (f ∷ []) ≡ false
unfolding all_some
no_fields Section.B f = and-false (only 66 f)
no_fields Section.R f = and-false (only 82 f)
no_fields Section.G f = and-false (only 71 f)
no_fields Section.L f = and-false (only 76 f)
no_fields Section.Y f = and-false (only 89 f)
no_fields Section.K f = and-false (only 75 f)

-- where the form is good the fields start two bytes behind the line's start
module _ (s : List ℕ) (a e : ℕ) (z : Section) (h : a ≤ e) (k : e ≤ length s) (g : form_of z (pieces 32 (slice a e s)) ≡ true) where
  letter-first : (p : ℕ) → Found s a e 32 p → (p < e) × (p ≡ a + 1)
  letter-first p f =
      ⊎_elim
      (λ q. (
        q,
        (let w : form_of z (slice a p s ∷ pieces 32 (slice (p + 1) e s)) ≡ true = rw (f.more q) at g in
            let i : p ≤ length s = omega (arith, f.high) in
            omega (arith, f.low, ap length (only-is (section_letter z) (slice a p s) (and_left _ _ w)), length-slice a p s i)),
      ))
      (λ q. absurd (true-false (rw (f.last q) at g) (no_fields z (slice a p s))))
      (below_or p e)

  pub form-split : (a + 2 ≤ e) × (tail (pieces 32 (slice a e s)) ≡ pieces 32 (slice (a + 2) e s))
  form-split =
      let p = a + length (upto 32 (slice a e s)) in
      let f = found s a e 32 h k p refl in
      let l = letter-first p f in
      let q : p + 1 ≡ a + 2 = omega (arith, l.1) in
      (omega (arith, l.0, l.1), ap tail (f.more l.0) ∙ ap (λ (n : ℕ). pieces 32 (slice n e s)) q)

-- ---- the fields

-- what two calls say of a field
pub good-is : (z : Section) (j : ℕ) (f : List ℕ) (w : Want) → w ≡ want_of z j → (b : Bool) → b ≡ good_of w f → good_of (want_of z j) f ≡ b
good-is z j f w p b q = rw (← p) (sym q)

module _ (s : List ℕ) (z : Section) (i e q j : ℕ) (h : e ≤ length s) (f : Found s i e 32 q) where
  pub field-wrong : good_of (want_of z j) (slice i q s) ≡ false → fields_of z j i (pieces 32 (slice i e s)) ≡ Err (Fault.Field i)
  unfolding fields_by
  field-wrong g = ⊎_elim (λ w. rw (f.more w, g)) (λ w. rw (f.last w, g)) (below_or q e)

  module _ (g : good_of (want_of z j) (slice i q s) ≡ true) where
    pub field-last : e ≤ q → fields_of z j i (pieces 32 (slice i e s)) ≡ Ok tt
    unfolding fields_by
    field-last w = rw (f.last w, g)

    pub field-on : q < e → fields_of z j i (pieces 32 (slice i e s)) ≡ fields_of z (j + 1) (q + 1) (pieces 32 (slice (q + 1) e s))
    unfolding fields_by
    field-on w =
        let r : q ≤ length s = omega (arith, f.high) in
        let v : i + length (slice i q s) + 1 ≡ q + 1 = omega (arith, length-slice i q s r, f.low) in
        rw (f.more w, g, v)

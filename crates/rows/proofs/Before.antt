-- The lines of a section, and its bytes, checked by 01's digit rule and by 02's: the same check, or one that is moved. Assumes nothing.
use Rattle.std.specs.Prelude.{◌≡◌, refl, true, false, ◌⊎◌, List, [], ◌∷◌, ◌++◌, map, leb, drop, Ok, Err}
use Rattle.std.proofs.Common.{sym, ◌∙◌, ⊎_elim, append_assoc, zero-add, drop-drop}
use Rattle.std.proofs.Math.Path.{ap}
use Rattle.std.proofs.Math.Bool.{and-false}
use Rattle.std.proofs.Math.Logic.{inl, inr}
use Prim.Native.Nat.{ℕ, suc, ◌+◌, ◌<◌}
use native.Mathlib.Omega.{arith}
use Rattle.std.proofs.Math.Nat.{zero-lt-suc}
use Rattle.std.proofs.Math.ListN.{length, length-append}
use Rattle.std.proofs.Math.Seq.{drop-append_seam}
use Rattle.real.specs.Tests.{decided}
use Rattle.fields.specs.Cut.{pieces}
use Rattle.fields.specs.Real.{DigitRule, allowed}
use Rattle.fields.specs.Before.{allowed_before}
use Rattle.rows.specs.Asked.{size_of}
use Rattle.rows.specs.Line.{LineCheck, line_by}
use Rattle.rows.specs.Rows.{after, section_by, check_by, check_of, ended}
use Rattle.rows.specs.Printed.{spread, fields_in, field_table}
use Rattle.rows.specs.Printed.Laws.{join, join-pieces}
use Rattle.rows.specs.Before.{Freed, Moved}
use Rattle.rows.specs.declared.Section.{Section}
use Rattle.rows.specs.declared.Fault.{Fault}
use Rattle.rows.specs.Rows.{Check}
use Rattle.rows.specs.Before.Laws.{after-behind, section-behind, MovedField, line_before}

-- ---- the lines of a section

-- a line before those that are checked: where it is good, what was moved of them is moved; where it is refused, so is all
one-line-more : (s : List ℕ) (z : Section) (fs : List (List ℕ)) (rows : List (List (List ℕ))) (w : LineCheck) (v v' : Check) (m : Moved s z rows v v')
    → (after w v ≡ after w v') ⊎ ((n : Moved s z (fs ∷ rows) (after w v) (after w v')) × (n.place ≡ m.place))
one-line-more s z fs rows (Ok _) v v' m =
    let f = m.freed in
    let freed : Freed s m.place z (fs ∷ rows) (suc m.row) m.column = record { inside = omega (arith, f.inside); field = f.field; stands = f.stands; refused = f.refused; taken = f.taken } in
    inr (record { place = m.place; was = m.was; row = suc m.row; column = m.column; freed = freed; now = m.now }, refl)
one-line-more s z fs rows (Err f) v v' m = inl refl

-- the rows that are read of the lines, and what their check was and is
abbrev SectionBefore : List ℕ → Section → ℕ → ℕ → List (List ℕ) → Type 0
SectionBefore s z r at ls =
    let v = section_by allowed_before z r at ls in
    let v' = section_by allowed z r at ls in
    (v ≡ v') ⊎ ((m : Moved s z (map fields_in (ended ls)) v v') × (m.place < at + length (join 10 ls)))

module _ (s : List ℕ) (z : Section) (r at : ℕ) (l m : List ℕ) (ms : List (List ℕ)) where
  -- a line that is no more than its table has room for
  section-turn : (rule : DigitRule) → leb (size_of z) r ≡ false
      → section_by rule z r at (l ∷ m ∷ ms) ≡ after (line_by rule z at l) (section_by rule z (r + 1) (at + length l + 1) (m ∷ ms))
  unfolding section_by
  section-turn rule q = rw (and-false, q)

  section-full : (rule : DigitRule) → leb (size_of z) r ≡ true → section_by rule z r at (l ∷ m ∷ ms) ≡ Err (Fault.Rows at)
  unfolding section_by
  section-full rule q = rw (and-false, q)

  module _ (q : leb (size_of z) r ≡ false) where
    -- the line moved
    line-moved : MovedField s z 0 (at + length l + 1) (fields_in l) (line_by allowed_before z at l) (line_by allowed z at l) → SectionBefore s z r at (l ∷ m ∷ ms)
    unfolding ended spread
    line-moved f =
        rw (section-turn allowed_before q, section-turn allowed q)
        (inr (
          record {
            place = f.place;
            was = ap (λ (v : LineCheck). after v (section_by allowed_before z (r + 1) (at + length l + 1) (m ∷ ms))) f.was;
            row = 0;
            column = f.i;
            freed = record { inside = zero-lt-suc _; field = f.inside; stands = f.stands; refused = rw (zero-add f.i) at f.refused; taken = rw (zero-add f.i) at f.taken };
            now = after-behind f.place (line_by allowed z at l) _ f.now (section-behind z f.place (r + 1) (at + length l + 1) (m ∷ ms) f.within);
          },
          rw length-append (omega (arith, f.within)),
        ))

    -- it did not: the next ones tell
    line_same : line_by allowed_before z at l ≡ line_by allowed z at l → SectionBefore s z (r + 1) (at + length l + 1) (m ∷ ms) → SectionBefore s z r at (l ∷ m ∷ ms)
    unfolding ended spread
    line_same e (inl k) = inl (rw (section-turn allowed_before q, section-turn allowed q, e, k))
    line_same e (inr k) =
        rw (section-turn allowed_before q, section-turn allowed q, e)
        (⊎_elim (λ g. inl g) (λ g. inr (g.0, rw (g.1, length-append) (omega (arith, k.1)))) (one-line-more s z (fields_in l) _ (line_by allowed z at l) _ _ k.0))

-- a section's check is what it was by 01's rule, or it is moved
section-before : (s : List ℕ) (z : Section) (r at : ℕ) (ls : List (List ℕ)) (tl : List ℕ) → drop at s ≡ join 10 ls ++ tl → SectionBefore s z r at ls
unfolding spread
section-before s z r at [] tl e = inl (unfold section_by in refl)
section-before s z r at (l ∷ []) tl e = inl (unfold section_by in refl)
section-before s z r at (l ∷ m ∷ ms) tl e =
    let rest = spread 10 (m ∷ ms) ++ tl in
    let here : drop at s ≡ l ++ rest = e ∙ append_assoc l (spread 10 (m ∷ ms)) tl in
    let next : drop (at + length l + 1) s ≡ join 10 (m ∷ ms) ++ tl =
    sym (drop-drop 1 (at + length l) s) ∙ ap (drop 1) (sym (drop-drop (length l) at s) ∙ ap (drop (length l)) here ∙ drop-append_seam l rest) in
    ⊎_elim (λ q. inl (rw (section-full s z r at l m ms allowed_before q, section-full s z r at l m ms allowed q)))
    (λ q. ⊎_elim (λ k. line_same s z r at l m ms q k (section-before s z (r + 1) (at + length l + 1) (m ∷ ms) tl next)) (line-moved s z r at l m ms q) (line_before s z at l rest here))
    (decided (leb (size_of z) r))

-- the same of a section's bytes, which stand at `at`
pub check-before : (s : List ℕ) (z : Section) (at : ℕ) (l tl : List ℕ) → drop at s ≡ l ++ tl
    → (check_by allowed_before z at l ≡ check_of z at l) ⊎ ((m : Moved s z (field_table l) (check_by allowed_before z at l) (check_of z at l)) × (m.place < at + length l))
check-before s z at l tl e =
    rw (join-pieces 10 l) at (section-before s z 0 at (pieces 10 l) tl (e ∙ ap (λ (x : List ℕ). x ++ tl) (sym (join-pieces 10 l))))

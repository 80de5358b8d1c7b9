-- A section's turns: the search for the next LF gives the next row, of the check and of the rows. Assumes nothing.
use Rattle.std.specs.Prelude.{◌≡◌, refl, false, List, [], ◌∷◌, ℕ, ◌+◌, ◌≤◌, ◌<◌, eqb, Ok, Err}
use Rattle.std.proofs.Common.{ap, ◌∙◌}
use Rattle.std.proofs.Math.Bool.{and-false}
use Rattle.std.proofs.Math.Logic.{⊎_elim}
use native.Mathlib.Omega.{arith}
use Rattle.std.proofs.Math.ListN.{length}
use Rattle.std.proofs.Math.Seq.{slice, length-slice}
use borrow.Author.Tests.{le-leb, lt-leb}
use Rattle.fields.specs.Cut.{empty, pieces, onto, Found}
use Rattle.real.specs.Tests.{decided, below_or}
use Rattle.fields.specs.Cut.Laws.{slice-some, slice-none}
use Rattle.rows.specs.Asked.{size_of}
use Rattle.rows.specs.Line.{line_of}
use Rattle.rows.specs.Rows.{after, section_by, section_of, ended, rows_of}
use Rattle.rows.specs.declared.Section.{Section}
use Rattle.rows.specs.declared.Fault.{Fault}

never-none : (b : ℕ) (ps : List (List ℕ)) → empty (onto b ps) ≡ false
never-none b [] = refl
never-none b (p ∷ ps) = refl

pub pieces-some : (x : ℕ) (l : List ℕ) → empty (pieces x l) ≡ false
unfolding pieces
pieces-some x [] = refl
pieces-some x (b ∷ r) = ⊎_elim (λ p. rw p) (λ p. rw p (never-none b (pieces x r))) (decided (eqb b x))

-- ---- the check from a place before the end on, after r rows

module _ (z : Section) (r : ℕ) (s : List ℕ) (i e p : ℕ) (h : i < e) (k : e ≤ length s) (f : Found s i e 10 p) where
  pub too_many : size_of z ≤ r → section_of z r i (pieces 10 (slice i e s)) ≡ Err (Fault.Rows i)
  unfolding section_by
  too_many g =
      ⊎_elim (λ q. rw (f.more q, pieces-some, and-false, le-leb (size_of z) r g))
      (λ q. let u : i < p = omega arith in let w : p ≤ length s = omega (arith, f.high) in rw (f.last q, slice-some s i p u w, le-leb (size_of z) r g))
      (below_or p e)

  pub unended : r < size_of z → e ≤ p → section_of z r i (pieces 10 (slice i e s)) ≡ Err (Fault.Form i)
  unfolding section_by
  unended g q = let w : p ≤ length s = omega (arith, f.high) in rw (f.last q, slice-some s i p (omega arith) w, lt-leb (size_of z) r g)

  one_line : r < size_of z → p < e
      → section_of z r i (pieces 10 (slice i e s)) ≡ after (line_of z i (slice i p s)) (section_of z (r + 1) (p + 1) (pieces 10 (slice (p + 1) e s)))
  unfolding section_by
  one_line g q =
      let w : p ≤ length s = omega (arith, f.high) in
      let v : i + length (slice i p s) + 1 ≡ p + 1 = omega (arith, length-slice i p s w, f.low) in
      rw (f.more q, pieces-some, and-false, lt-leb (size_of z) r g, v)

  pub line-good : r < size_of z → p < e → line_of z i (slice i p s) ≡ Ok tt
      → section_of z r i (pieces 10 (slice i e s)) ≡ section_of z (r + 1) (p + 1) (pieces 10 (slice (p + 1) e s))
  line-good g q w = one_line g q ∙ rw w

  pub line_refused : r < size_of z → p < e → (v : Fault) → line_of z i (slice i p s) ≡ Err v → section_of z r i (pieces 10 (slice i e s)) ≡ Err v
  line_refused g q v w = one_line g q ∙ rw w

pub section_end_lem : (z : Section) (r : ℕ) (s : List ℕ) (i e : ℕ) → i ≡ e → section_of z r i (pieces 10 (slice i e s)) ≡ Ok r
unfolding pieces section_by
section_end_lem z r s i e q = rw (slice-none s i e q)

-- ---- the rows from a place on

module _ (s : List ℕ) (i e p : ℕ) (f : Found s i e 10 p) where
  pub rows_more : p < e → rows_of (slice i e s) ≡ slice i p s ∷ rows_of (slice (p + 1) e s)
  unfolding ended
  rows_more q = rw (f.more q, pieces-some)

  -- the row fits, and those after it
  pub rows-room : (r n : ℕ) → p < e → r + length (rows_of (slice i e s)) ≤ n → r + 1 + length (rows_of (slice (p + 1) e s)) ≤ n
  rows-room r n q h = omega (arith, ap length (rows_more q))

  pub rows_last : e ≤ p → rows_of (slice i e s) ≡ []
  unfolding ended
  rows_last q = rw (f.last q)

pub rows_end : (s : List ℕ) (i e : ℕ) → i ≡ e → rows_of (slice i e s) ≡ []
unfolding pieces ended
rows_end s i e q = rw (slice-none s i e q)

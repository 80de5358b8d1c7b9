-- A line's field by its number; a column's turns, for any kind of element; that a column's rows are its section's lines; and that a field read as a real
-- or `?` is the real, where it is one. Assumes nothing.
use Rattle.std.specs.Prelude.{◌≡◌, refl, true, false, List, [], ◌∷◌, ℕ, zero, suc, ◌+◌, ◌-◌, ◌≤◌, ◌<◌, length, get_or, set, take, is_some}
use Rattle.std.proofs.Common.{sym, ap, ◌∙◌, ⊎_elim, arith, add-one, length-set}
use Rattle.std.proofs.lemmas.List.{length-map}
use Rattle.std.proofs.Math.ListN.{get_or-map}
use Rattle.std.proofs.Math.Seq.{slice, take-append_seam}
use Rattle.std.proofs.lemmas.List.Edits.{sets, sets-eq}
use Rattle.fields.specs.Cut.{only, has, pieces, Found}
use Rattle.fields.specs.Cut.Laws.{only-is}
use Rattle.real.specs.Tests.{decided, true-false, below_or}
use Rattle.fields.specs.Digits.{digits}
use Rattle.fields.specs.Real.{amount_by, real_of, or_nan_of}
use Rattle.rows.specs.Rows.{rows_of}
use Rattle.rows.specs.Rows.Laws.{rows_more, rows-room, rows_last, rows_end}
use Rattle.columns.specs.Columns.{row_count, number_field, column_of, filled}

-- ---- a field by its number

get_d_past : (x : List ℕ) (k : ℕ) → (k ≡ 0 → ⊥) → get_or (x ∷ []) k [] ≡ []
get_d_past x zero h = absurd (h refl)
get_d_past x (suc k) h = refl

get_d-on : (x : List ℕ) (xs : List (List ℕ)) (k : ℕ) → (k ≡ 0 → ⊥) → get_or (x ∷ xs) k [] ≡ get_or xs (k - 1) []
get_d-on x xs zero h = absurd (h refl)
get_d-on x xs (suc k) h = let q : suc k - 1 ≡ k = omega arith in rw q

module _ (s : List ℕ) (i e q k : ℕ) (f : Found s i e 32 q) where
  pub piece-here : k ≡ 0 → get_or (pieces 32 (slice i e s)) k [] ≡ slice i q s
  piece-here g = ⊎_elim (λ w. rw (f.more w, g)) (λ w. rw (f.last w, g)) (below_or q e)

  pub piece-past : (k ≡ 0 → ⊥) → e ≤ q → get_or (pieces 32 (slice i e s)) k [] ≡ []
  piece-past g w = rw (f.last w) (get_d_past (slice i q s) k g)

  pub piece-on : (k ≡ 0 → ⊥) → q < e → get_or (pieces 32 (slice i e s)) k [] ≡ get_or (pieces 32 (slice (q + 1) e s)) (k - 1) []
  piece-on g w = rw (f.more w) (get_d-on (slice i q s) (pieces 32 (slice (q + 1) e s)) k g)

no-items : (xs : List (List ℕ)) → length xs ≡ 0 → xs ≡ []
no-items [] h = refl
no-items (x ∷ xs) h = absurd (omega arith)

-- ---- a column under way, for any kind of element: r rows are written, and the bytes from i up to e are left

pub record Filling {A : Type 0} (g : List ℕ → A) (s : List ℕ) (a e : ℕ) (old : List A) (i r : ℕ) (out : List A) : Type 0 where
  pub within : i ≤ e
  pub long : length out ≡ length old
  pub room : r + row_count (slice i e s) ≤ length out
  pub same : sets out r (column_of g (slice i e s)) ≡ filled g (slice a e s) old

module _ {A : Type 0} (g : List ℕ → A) (s : List ℕ) (a e : ℕ) (old : List A) where
  pub fill-starts : a ≤ e → row_count (slice a e s) ≤ length old → Filling g s a e old a 0 old
  fill-starts h k = record { within = h; long = refl; room = omega arith; same = refl }

  module _ (i r : ℕ) (out : List A) (w : Filling g s a e old i r out) where
    pub fill-ends : i ≡ e → out ≡ filled g (slice a e s) old
    fill-ends q = rw (rows_end s i e q) at w.same

    -- where the column ends no row is left
    pub fill-full : length out ≤ r → out ≡ filled g (slice a e s) old
    fill-full q = rw (no-items (rows_of (slice i e s)) (omega (arith, w.room))) at w.same

    module _ (p : ℕ) (f : Found s i e 10 p) where
      pub fill_stops : e ≤ p → out ≡ filled g (slice a e s) old
      fill_stops q = rw (rows_last s i e p f q) at w.same

      module _ (q : p < e) where
        -- the row fits, and those after it
        pub fill-room : r + 1 + row_count (slice (p + 1) e s) ≤ length out
        fill-room = rows-room s i e p f r (length out) q w.room

        column-on : (v : A) → v ≡ g (slice i p s) → sets out r (column_of g (slice i e s)) ≡ sets (set out r v) (r + 1) (column_of g (slice (p + 1) e s))
        column-on v t = rw (rows_more s i e p f q, add-one r, t)

        pub fill-turn : (v : A) → v ≡ g (slice i p s) → Filling g s a e old (p + 1) (r + 1) (set out r v)
        fill-turn v t = record {
          within = omega arith;
          long = simp length-set w.long;
          room = simp length-set fill-room;
          same = sym (column-on v t) ∙ w.same;
        }

-- ---- a column's rows are its section's lines, in their order

pub rows-are-lines : {A : Type 0} (f : List ℕ → A) (l : List ℕ) (old : List A) (n : ℕ) → n ≡ row_count l → n ≤ length old → take n (filled f l old) ≡ column_of f l
rows-are-lines f l old n e h =
    let size : length (column_of f l) ≡ n = length-map (rows_of l) f ∙ sym e in
    ap (take n) (sets-eq (column_of f l) old 0 (omega (arith, size))) ∙ rw (← size) (take-append_seam (column_of f l) _)

no_number : (j : ℕ) → number_field j [] ≡ 0
unfolding pieces
no_number j = rw add-one

pub number-of-line : (j : ℕ) (l : List ℕ) (i : ℕ) → get_or (column_of (number_field j) l) i 0 ≡ number_field j (get_or (rows_of l) i [])
number-of-line j l i = rw (no_number j) at (get_or-map (number_field j) (rows_of l) i [])

-- ---- `?` is no real

mark-wrong : (l : List ℕ) → only 63 l ≡ true → is_some (real_of l) ≡ false
unfolding has digits amount_by
mark-wrong l h = rw (only-is 63 l h)

pub plain_value : (l : List ℕ) → is_some (real_of l) ≡ true → or_nan_of l ≡ real_of l
plain_value l h = ⊎_elim (λ q. absurd (true-false h (mark-wrong l q))) (λ q. rw q) (decided (only 63 l))

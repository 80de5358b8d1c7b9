-- Every figure of a sound section is the double nearest to the decimal that stands in its line. Assumes nothing.
use Rattle.std.specs.Prelude.{◌≡◌, refl, true, false, List, [], ◌∷◌, ℕ, ◌+◌, ◌<◌, get_or, Float, None, Option, Some, is_some}
use Rattle.std.proofs.Common.{⊎_elim, add-one}
use Rattle.std.proofs.Math.ListN.{get_or-map}
use Rattle.real.specs.Tests.{decided, true-false}
use Rattle.real.specs.Nearest.{NearestDouble}
use Rattle.fields.specs.Cut.{only, pieces}
use Rattle.fields.specs.Real.{DigitRule, allowed, or_nan_by, or_nan_of, real_in}
use Rattle.fields.specs.Decimal.{has_minus, numerator, denominator}
use Rattle.fields.proofs.Nearest.{real-nearest}
use Rattle.rows.specs.Asked.{field_count, want_of, good_by}
use Rattle.rows.specs.Line.{tail}
use Rattle.rows.specs.Rows.{rows_of}
use Rattle.rows.specs.Printed.{fields_in, field_table}
use Rattle.rows.specs.Printed.Laws.{SoundBy}
use Rattle.rows.specs.declared.Section.{Section}
use Rattle.rows.specs.declared.Want.{Want}
use Rattle.columns.specs.Columns.{row_count, cell_of, real_field}

-- a real is asked
abbrev pub Reals : Want → Type 0
Reals Want.Plain = Unit
Reals Want.Stored = Unit
Reals Want.Bus = ⊥
Reals Want.Kind = ⊥

-- each row of a section's bytes is sound
abbrev pub RowsSound : DigitRule → Section → List ℕ → Type 0
RowsSound rule z l = (k : ℕ) → k < row_count l → SoundBy rule z (get_or (field_table l) k [])

-- the cell that is read is the field that was checked
cell_field : (ps : List (List ℕ)) (j : ℕ) → get_or ps (j + 1) [] ≡ get_or (tail ps) j []
cell_field [] j = refl
cell_field (p ∷ ps) j = rw add-one

good-read : (rule : DigitRule) (w : Want) (f : List ℕ) → Reals w → good_by rule w f ≡ true → is_some (or_nan_by rule f) ≡ true
good-read rule Want.Plain f r h = ⊎_elim (λ q. rw q) (λ q. rw q h) (decided (only 63 f))
good-read rule Want.Stored f r h = h
good-read rule Want.Bus f r h = absurd r
good-read rule Want.Kind f r h = absurd r

module _ (rule : DigitRule) (z : Section) (l : List ℕ) (sound : RowsSound rule z l) (k j : ℕ) (h : k < row_count l) (g : j < field_count z) (r : Reals (want_of z j)) where
  row-sound : SoundBy rule z (fields_in (get_or (rows_of l) k []))
  unfolding pieces
  row-sound = rw (get_or-map fields_in (rows_of l) k []) at (sound k h)

  -- field j of row k is read as a real, or as `?`
  pub figure-read : is_some (or_nan_by rule (cell_of j (get_or (rows_of l) k []))) ≡ true
  figure-read =
      let row = get_or (rows_of l) k [] in
      rw (cell_field (pieces 32 row) j) (good-read rule (want_of z j) (get_or (fields_in row) j []) r (row-sound.good j (rw row-sound.count g)))

value-nearest : (f : List ℕ) → only 63 f ≡ false → is_some (or_nan_of f) ≡ true → NearestDouble (real_in (or_nan_of f)) (has_minus f) (numerator f) (denominator f)
value-nearest f q h = go (or_nan_of f) refl h
  where
    go : (r : Option Float) → or_nan_of f ≡ r → is_some r ≡ true → NearestDouble (real_in r) (has_minus f) (numerator f) (denominator f)
    go (Some x) e t = real-nearest f x (rw q at e)
    go None e t = absurd (true-false t refl)

-- column j holds in place k the double nearest to what field j of line k writes, where that is not `?`
pub figure-nearest : (z : Section) (l : List ℕ) → RowsSound allowed z l → (k j : ℕ) → k < row_count l → j < field_count z → Reals (want_of z j)
    → let f = cell_of j (get_or (rows_of l) k []) in only 63 f ≡ false → NearestDouble (real_field j (get_or (rows_of l) k [])) (has_minus f) (numerator f) (denominator f)
figure-nearest z l sound k j h g r q = value-nearest (cell_of j (get_or (rows_of l) k [])) q (figure-read allowed z l sound k j h g r)

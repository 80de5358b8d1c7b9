-- A section that 01's digit rule accepted fills the columns as it did. Assumes nothing.
use Rattle.std.specs.Prelude.{◌≡◌, refl, List, [], ◌∷◌, map, ℕ, suc, ◌<◌, length, get_or, Float}
use Rattle.std.proofs.Common.{ap, arith, zero-lt-suc, lit<}
use Rattle.std.proofs.lemmas.List.Edits.{sets}
use Rattle.fields.specs.Real.{real_in}
use Rattle.fields.specs.Before.{allowed_before}
use Rattle.fields.specs.Before.Laws.{or-nan-kept}
use Rattle.rows.specs.Asked.{field_count, want_of}
use Rattle.rows.specs.Rows.{rows_of}
use Rattle.rows.specs.declared.Section.{Section}
use Rattle.network.specs.Network.{Buses, Slacks, Generators, Triplets, buses_of, slacks_of, generators_of, triplets_of}
use Rattle.columns.specs.Columns.{row_count, cell_of, real_field_by, real_field, number_field, kind_field, column_of, filled, buses_by, slacks_by, generators_by, triplets_by}
use Rattle.columns.specs.Figures.{Reals, RowsSound, figure-read}
use Rattle.columns.specs.Columns.{filled_buses, filled_slacks, filled_generators, filled_triplets}

-- ---- a column

map-agree : {A B : Type 0} (f g : A → B) (d : A) (rows : List A) → ((k : ℕ) → k < length rows → f (get_or rows k d) ≡ g (get_or rows k d)) → map f rows ≡ map g rows
map-agree f g d [] h = refl
map-agree f g d (x ∷ xs) h = λ i. h 0 (zero-lt-suc (length xs)) i ∷ map-agree f g d xs (λ k p. h (suc k) (omega arith)) i

module _ (z : Section) (l : List ℕ) (sound : RowsSound allowed_before z l) where
  real-column : (j : ℕ) → j < field_count z → Reals (want_of z j) → column_of (real_field j) l ≡ column_of (real_field_by allowed_before j) l
  real-column j h r = map-agree (real_field j) (real_field_by allowed_before j) [] (rows_of l) same
    where
      same : (k : ℕ) → k < row_count l → real_field j (get_or (rows_of l) k []) ≡ real_field_by allowed_before j (get_or (rows_of l) k [])
      same k p = ap real_in (or-nan-kept (cell_of j (get_or (rows_of l) k [])) (figure-read allowed_before z l sound k j p h r))

  filled-kept : (j : ℕ) → j < field_count z → Reals (want_of z j) → (old : List Float) → filled (real_field j) l old ≡ filled (real_field_by allowed_before j) l old
  filled-kept j h r old = ap (sets old 0) (real-column j h r)

-- ---- the tables

pub buses-kept : (l : List ℕ) → RowsSound allowed_before Section.B l → (t : Buses) → filled_buses l t ≡ buses_by allowed_before l t
buses-kept l s t =
    let same = filled-kept Section.B l s in
    λ i.
    buses_of (filled (kind_field 0) l t.kind) (same 1 (lit< tt) tt t.vm_set i) (same 2 (lit< tt) tt t.pd i) (same 3 (lit< tt) tt t.qd i)
    (same 4 (lit< tt) tt t.pg i) (same 5 (lit< tt) tt t.qg i) (same 6 (lit< tt) tt t.vm_case i) (same 7 (lit< tt) tt t.va_case i)

pub slacks-kept : (l : List ℕ) → RowsSound allowed_before Section.R l → (t : Slacks) → filled_slacks l t ≡ slacks_by allowed_before l t
slacks-kept l s t = λ i. slacks_of (filled (number_field 0) l t.bus) (filled-kept Section.R l s 1 (lit< tt) tt t.angle i)

pub generators-kept : (l : List ℕ) → RowsSound allowed_before Section.G l → (t : Generators) → filled_generators l t ≡ generators_by allowed_before l t
generators-kept l s t =
    λ i. generators_of (filled (number_field 0) l t.bus) (filled-kept Section.G l s 1 (lit< tt) tt t.qmin i) (filled-kept Section.G l s 2 (lit< tt) tt t.qmax i)

pub triplets-kept : (l : List ℕ) → RowsSound allowed_before Section.Y l → (t : Triplets) → filled_triplets l t ≡ triplets_by allowed_before l t
triplets-kept l s t =
    λ i.
    triplets_of (filled (number_field 0) l t.row) (filled (number_field 1) l t.col) (filled-kept Section.Y l s 2 (lit< tt) tt t.re i)
    (filled-kept Section.Y l s 3 (lit< tt) tt t.im i)

-- What a good section says: the value of field j of each of its lines, one place per row.
pub mod Laws
use Rattle.std.specs.Prelude.{ℕ, ◌+◌, List, [], map, length, get_or, Float}
use Rattle.std.proofs.lemmas.List.Edits.{sets}
use Rattle.fields.specs.Cut.{pieces}
use Rattle.fields.specs.Digits.{bus_of, number_in}
use Rattle.fields.specs.Real.{DigitRule, allowed, or_nan_by, real_in}
use Rattle.rows.specs.Rows.{rows_of}
use Rattle.network.specs.BranchTable.{Values, BranchTable, values_of, branch_table_of}
use Rattle.network.specs.Network.{Buses, Slacks, Generators, Branches, Triplets, buses_of, slacks_of, generators_of, branches_of, triplets_of}

abbrev pub row_count : List ℕ → ℕ
row_count l = length (rows_of l)

-- field j of a line, its letter not counted
abbrev pub cell_of : ℕ → List ℕ → List ℕ
cell_of j l = get_or (pieces 32 l) (j + 1) []

-- the three kinds of column: reals by a digit rule (`?` is no other real, so it is read the same way wherever it is allowed), bus numbers, and a kind
-- as its letter's byte
abbrev pub real_value_by : DigitRule → List ℕ → Float
real_value_by rule f = real_in (or_nan_by rule f)

abbrev pub number_value : List ℕ → ℕ
number_value f = number_in (bus_of f)

abbrev pub kind_value : List ℕ → ℕ
kind_value f = get_or f 0 0

-- field j of a line as each of these
abbrev pub real_field_by : DigitRule → ℕ → List ℕ → Float
real_field_by rule j r = real_value_by rule (cell_of j r)

abbrev pub number_field : ℕ → List ℕ → ℕ
number_field j r = number_value (cell_of j r)

abbrev pub kind_field : ℕ → List ℕ → ℕ
kind_field j r = kind_value (cell_of j r)

-- what f says of each row of a section's bytes
abbrev pub column_of : {A : Type 0} → (List ℕ → A) → List ℕ → List A
column_of f l = map f (rows_of l)

-- "one place per row and none past them"
abbrev pub filled : {A : Type 0} → (List ℕ → A) → List ℕ → List A → List A
filled f l old = sets old 0 (column_of f l)

-- ---- each table, of its section's bytes: column j holds field j

abbrev pub filled_branches : List ℕ → Branches → Branches
filled_branches l t = branches_of (filled (number_field 0) l t.from) (filled (number_field 1) l t.to)

module _ (rule : DigitRule) where
  abbrev pub buses_by : List ℕ → Buses → Buses
  buses_by l t =
      let real : ℕ → List Float → List Float = λ j old. filled (real_field_by rule j) l old in
      buses_of (filled (kind_field 0) l t.kind) (real 1 t.vm_set) (real 2 t.pd) (real 3 t.qd) (real 4 t.pg) (real 5 t.qg) (real 6 t.vm_case) (real 7 t.va_case)

  abbrev pub slacks_by : List ℕ → Slacks → Slacks
  slacks_by l t = slacks_of (filled (number_field 0) l t.bus) (filled (real_field_by rule 1) l t.angle)

  abbrev pub generators_by : List ℕ → Generators → Generators
  generators_by l t = generators_of (filled (number_field 0) l t.bus) (filled (real_field_by rule 1) l t.qmin) (filled (real_field_by rule 2) l t.qmax)

  abbrev pub triplets_by : List ℕ → Triplets → Triplets
  triplets_by l t =
      triplets_of (filled (number_field 0) l t.row) (filled (number_field 1) l t.col) (filled (real_field_by rule 2) l t.re) (filled (real_field_by rule 3) l t.im)

  abbrev pub values_by : List ℕ → Values → Values
  values_by l v =
      let real : ℕ → List Float → List Float = λ j old. filled (real_field_by rule j) l old in
      values_of (real 2 v.g) (real 3 v.b) (real 4 v.g_fr) (real 5 v.b_fr) (real 6 v.g_to) (real 7 v.b_to) (real 8 v.tap) (real 9 v.shift) (real 10 v.sw)

  abbrev pub branch_table_by : List ℕ → BranchTable → BranchTable
  branch_table_by l t = branch_table_of (filled_branches l t.ends) (values_by l t.values)

-- ---- by 02's digit rule

abbrev pub real_value : List ℕ → Float
real_value = real_value_by allowed

abbrev pub real_field : ℕ → List ℕ → Float
real_field = real_field_by allowed

abbrev pub filled_buses : List ℕ → Buses → Buses
filled_buses = buses_by allowed

abbrev pub filled_slacks : List ℕ → Slacks → Slacks
filled_slacks = slacks_by allowed

abbrev pub filled_generators : List ℕ → Generators → Generators
filled_generators = generators_by allowed

abbrev pub filled_triplets : List ℕ → Triplets → Triplets
filled_triplets = triplets_by allowed

abbrev pub filled_values : List ℕ → Values → Values
filled_values = values_by allowed

abbrev pub filled_branch_table : List ℕ → BranchTable → BranchTable
filled_branch_table = branch_table_by allowed

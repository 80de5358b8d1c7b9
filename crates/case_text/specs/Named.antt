-- 02, Ask 1, of a text: a row is a line of its section, counted from 0, and a field is one of that line's, its letter not counted.
pub mod Laws
use Rattle.std.specs.Prelude.{ℕ, ◌≤◌, ◌<◌, List, [], get_or}
use Rattle.network.specs.declared.Naming.{Naming}
use Rattle.network.specs.declared.Naming.TheVariants as Naming
use Rattle.rows.specs.Rows.{rows_of}
use Rattle.rows.specs.declared.Section.{Section}
use Rattle.rows.specs.declared.Section.TheVariants as Section
use Rattle.columns.specs.Columns.{row_count, number_field}
use Rattle.trailer.specs.Trailer.{behind_g, bytes_of}
use Rattle.trailer.specs.declared.Edition.{Edition}

-- the section of a table whose rows name buses; the second edition's branches are those of K
abbrev pub naming_section : Edition → Naming → Section
naming_section e Naming.Slack = Section.R
naming_section e Naming.Generator = Section.G
naming_section e Naming.Branch = behind_g e
naming_section e Naming.Triplet = Section.Y

-- how many bus numbers its lines begin with
abbrev pub bus_fields : Naming → ℕ
bus_fields Naming.Slack = 1
bus_fields Naming.Generator = 1
bus_fields Naming.Branch = 2
bus_fields Naming.Triplet = 2

module _ (e : Edition) (s : List ℕ) (t : ℕ) where
  -- how many buses a text has whose trailer starts at t, and the bus number in field j of line i
  abbrev pub text_buses : ℕ
  text_buses = row_count (bytes_of Section.B s t)

  abbrev pub bus_number : Naming → ℕ → ℕ → ℕ
  bus_number table i j = number_field j (get_or (rows_of (bytes_of (naming_section e table) s t)) i [])

  -- field j of line i names a bus that is not there; no field before it in that line, and no line before it in that section, does
  pub record LowestLine (table : Naming) (i j : ℕ) : Type 0 where
    pub inside : i < row_count (bytes_of (naming_section e table) s t)
    pub field : j < bus_fields table
    pub names : text_buses ≤ bus_number table i j
    pub fields_before : (k : ℕ) → k < j → bus_number table i k < text_buses
    pub lines_before : (h k : ℕ) → h < i → k < bus_fields table → bus_number table h k < text_buses

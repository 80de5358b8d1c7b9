-- A section as its rows print it: each row its letter, a space before each field, and LF.
pub mod Laws
use Rattle.std.specs.Prelude.{ℕ, List, [], ◌∷◌, ◌++◌, map}
use Rattle.fields.specs.Cut.{pieces}
use Rattle.rows.specs.Asked.{section_letter}
use Rattle.rows.specs.Line.{tail}
use Rattle.rows.specs.Rows.{rows_of}
use Rattle.rows.specs.declared.Section.{Section}

-- each field with an x before it
unfoldable pub spread : ℕ → List (List ℕ) → List ℕ
spread x [] = []
spread x (f ∷ fs) = x ∷ (f ++ spread x fs)

-- the fields of a row
abbrev pub fields_in : List ℕ → List (List ℕ)
fields_in r = tail (pieces 32 r)

-- the fields of each row of a section
abbrev pub field_table : List ℕ → List (List (List ℕ))
field_table l = map fields_in (rows_of l)

unfoldable pub printed : Section → List (List (List ℕ)) → List ℕ
printed z [] = []
printed z (fs ∷ rows) = section_letter z ∷ (spread 32 fs ++ (10 ∷ printed z rows))

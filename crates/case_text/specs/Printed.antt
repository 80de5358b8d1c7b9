-- A text as its parts print it: the rows of each section in turn, and the trailer.
pub mod Laws
use Rattle.std.specs.Prelude.{ℕ, zero, suc, ◌+◌, List, [], ◌∷◌, ◌++◌, get_or}
use Rattle.std.proofs.Math.Seq.{slice}
use Rattle.rows.specs.Printed.{printed, field_table}
use Rattle.rows.specs.declared.Section.{Section}
use Rattle.rows.specs.declared.Section.TheVariants as Section
use Rattle.trailer.specs.Trailer.{groups_of, behind_g, bytes_of}
use Rattle.trailer.specs.declared.Edition.{Edition}
use Rattle.trailer.specs.declared.Edition.TheVariants.{First, Second}

-- the rows of a section, printed
abbrev pub rows_printed : Section → List ℕ → ℕ → List ℕ
rows_printed z s t = printed z (field_table (bytes_of z s t))

-- so many times a space and five bytes, from a place on
unfoldable pub groups_printed : ℕ → List ℕ → ℕ → List ℕ
groups_printed zero s at = []
groups_printed (suc k) s at = 32 ∷ (slice (at + 1) (at + 6) s ++ groups_printed k s (at + 6))

-- the flag, k groups, and LF
abbrev pub trailer_printed : ℕ → List ℕ → ℕ → List ℕ
trailer_printed k s t = get_or s t 0 ∷ (groups_printed k s (t + 1) ++ (10 ∷ []))

-- the triplets' rows, of which the second edition has none, and the trailer
abbrev pub end_printed : Edition → List ℕ → ℕ → List ℕ
end_printed First s t = rows_printed Section.Y s t ++ trailer_printed (groups_of First) s t
end_printed Second s t = trailer_printed (groups_of Second) s t

abbrev pub text_printed : Edition → List ℕ → ℕ → List ℕ
text_printed e s t = rows_printed Section.B s t ++ (rows_printed Section.R s t ++ (rows_printed Section.G s t ++ (rows_printed (behind_g e) s t ++ end_printed e s t)))

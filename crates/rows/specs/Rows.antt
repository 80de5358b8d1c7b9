-- A section: the pieces between its LFs. In a good one the last piece is empty, and each other is a row.
pub mod Laws
use Rattle.std.specs.Prelude.{ℕ, ◌+◌, cond, ◌&&◌, List, [], ◌∷◌, leb, length, Result, Ok, Err}
use Rattle.fields.specs.Cut.{empty, pieces}
use Rattle.fields.specs.Real.{DigitRule, allowed}
use Rattle.rows.specs.Asked.{size_of}
use Rattle.rows.specs.Line.{LineCheck, line_by}
use Rattle.rows.specs.declared.Section.{Section}
use Rattle.rows.specs.declared.Fault.{Fault}

-- so many good rows, or a refusal with its place
abbrev pub Check : Type 0
Check = Result ℕ Fault

-- a refusal stands, and a good line leads on
abbrev pub after : LineCheck → Check → Check
after (Ok _) v = v
after (Err f) v = Err f

module _ (rule : DigitRule) where
  -- the pieces from `at` on, after r rows: "line by line 6, 4, 5"; "a section that doesn't end in LF is refusal 4 at its last line"
  unfoldable pub section_by : Section → ℕ → ℕ → List (List ℕ) → Check
  section_by z r at [] = Ok r
  section_by z r at (l ∷ ls) =
      cond (empty l && empty ls) (Ok r)
      (cond (leb (size_of z) r) (Err (Fault.Rows at))
      (cond (empty ls) (Err (Fault.Form at))
      (after (line_by rule z at l) (section_by z (r + 1) (at + length l + 1) ls))))

  -- the check of a section's bytes, which start at `at`
  abbrev pub check_by : Section → ℕ → List ℕ → Check
  check_by z at l = section_by z 0 at (pieces 10 l)

abbrev pub section_of : Section → ℕ → ℕ → List (List ℕ) → Check
section_of = section_by allowed

abbrev pub check_of : Section → ℕ → List ℕ → Check
check_of = check_by allowed

-- all pieces but the last
unfoldable pub ended : List (List ℕ) → List (List ℕ)
ended [] = []
ended (l ∷ ls) = cond (empty ls) [] (l ∷ ended ls)

-- the lines of a section, each without its LF
abbrev pub rows_of : List ℕ → List (List ℕ)
rows_of l = ended (pieces 10 l)

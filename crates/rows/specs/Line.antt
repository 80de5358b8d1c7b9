-- A line, which starts at the place `at`: its form, and then its fields left to right, by a digit rule.
pub mod Laws
use Rattle.std.specs.Prelude.{ℕ, ◌+◌, Bool, true, false, cond, ◌&&◌, not, List, [], ◌∷◌, eqb, length, Result, Ok, Err}
use Rattle.fields.specs.Cut.{empty, only, pieces}
use Rattle.fields.specs.Real.{DigitRule, allowed}
use Rattle.rows.specs.Asked.{section_letter, field_count, want_of, good_by}
use Rattle.rows.specs.declared.Section.{Section}
use Rattle.rows.specs.declared.Fault.{Fault}

-- a line is good, or there is a refusal with its place
abbrev pub LineCheck : Type 0
LineCheck = Result (Unit {0}) Fault

-- "none empty"
unfoldable pub all_some : List (List ℕ) → Bool
all_some [] = true
all_some (f ∷ fs) = not (empty f) && all_some fs

-- k fields and these are n, none of these empty
abbrev pub spaced_of : ℕ → ℕ → List (List ℕ) → Bool
spaced_of k n fs = all_some fs && eqb (k + length fs) n

-- "its section's letter and the named number of fields, none empty, with one space before each", of a line cut at its spaces
abbrev pub form_of : Section → List (List ℕ) → Bool
form_of z [] = false
form_of z (f ∷ fs) = only (section_letter z) f && spaced_of 0 (field_count z) fs

-- the fields of a line cut at its spaces: all pieces but the letter
abbrev pub tail : List (List ℕ) → List (List ℕ)
tail [] = []
tail (f ∷ fs) = fs

module _ (rule : DigitRule) where
  -- the fields from field j on, which start at `at`: refusal 5 at the first wrong one
  unfoldable pub fields_by : Section → ℕ → ℕ → List (List ℕ) → LineCheck
  fields_by z j at [] = Ok tt
  fields_by z j at (f ∷ fs) = cond (good_by rule (want_of z j) f) (fields_by z (j + 1) (at + length f + 1) fs) (Err (Fault.Field at))

  -- refusal 4 at the line's start, then 5
  abbrev pub line_by : Section → ℕ → List ℕ → LineCheck
  line_by z at l = cond (form_of z (pieces 32 l)) (fields_by z 0 (at + 2) (tail (pieces 32 l))) (Err (Fault.Form at))

abbrev pub fields_of : Section → ℕ → ℕ → List (List ℕ) → LineCheck
fields_of = fields_by allowed

abbrev pub line_of : Section → ℕ → List ℕ → LineCheck
line_of = line_by allowed

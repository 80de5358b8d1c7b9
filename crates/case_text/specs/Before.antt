-- 02, Ask 2, of a whole text: it is read as it was by 01's digit rule, or 01 refused one of its fields, which is now taken, and the reading goes on behind it.
pub mod Laws
use Rattle.std.specs.Prelude.{ℕ, ◌<◌, ◌≡◌, List, Ok, Err}
use Rattle.rows.specs.Printed.{field_table}
use Rattle.rows.specs.Before.{Freed}
use Rattle.rows.specs.declared.Section.{Section}
use Rattle.trailer.specs.Trailer.{bytes_of}
use Rattle.case_text.specs.declared.Refusal.{Refusal}
use Rattle.case_text.specs.Text.{Reading}

-- a good reading, or a refusal of a line or a field whose place lies behind p
abbrev pub BehindText : ℕ → Reading → Type 0
BehindText p (Ok c) = Unit
BehindText p (Err (Refusal.Length at)) = ⊥
BehindText p (Err (Refusal.Trailer at)) = ⊥
BehindText p (Err (Refusal.Byte at)) = ⊥
BehindText p (Err (Refusal.Rows at)) = p < at
BehindText p (Err (Refusal.Form at)) = p < at
BehindText p (Err (Refusal.Field at)) = p < at
BehindText p (Err Refusal.Room) = ⊥

-- a reading of the text s, whose trailer starts at t, that was v and is v': it was refusal 5 at a field of one of its rows, which 01's digit rule refused and 02's takes
pub record MovedText (s : List ℕ) (t : ℕ) (v v' : Reading) : Type 0 where
  pub place : ℕ
  pub was : v ≡ Err (Refusal.Field place)
  pub section : Section
  pub row : ℕ
  pub column : ℕ
  pub freed : Freed s place section (field_table (bytes_of section s t)) row column
  pub now : BehindText place v'

-- 01: "The trailer is the last 38 bytes: `F` (flat) or `C` (case start), then six times a space and five digits, then LF." 02, Ask 3, of the second
-- edition: "a small `f` or `c` and five starts (B, R, G, K, itself), 32 bytes in all". It starts at the place t. What holds of any count of groups is said of k
-- groups; the editions' counts stand in `groups_of` alone.
pub mod Laws
use Rattle.std.specs.Prelude.{ℕ, zero, suc, ◌+◌, ◌-◌, ◌*◌, ◌<◌, Bool, cond, ◌&&◌, ◌||◌, List, eqb, leb, length, get_or, None, Option, Some, is_some}
use Rattle.std.proofs.Math.Seq.{slice}
use Rattle.fields.specs.Digits.{digits_of, number_in}
use Rattle.rows.specs.declared.Section.{Section}
use Rattle.rows.specs.declared.Section.TheVariants as Section
use Rattle.trailer.specs.declared.Edition.{Edition}
use Rattle.trailer.specs.declared.Edition.TheVariants.{First, Second}
use Rattle.trailer.specs.declared.Places.{Places}
use Rattle.starts.specs.declared.AcStart.{AcStart}
use Rattle.starts.specs.declared.AcStart.TheVariants.{Flat, Case}

-- "six times a space and five digits"; "five starts"
abbrev pub groups_of : Edition → ℕ
groups_of First = 6
groups_of Second = 5

-- the bytes of a trailer of k groups: its flag, k times a space and five digits, LF
abbrev pub width_of : ℕ → ℕ
width_of k = 1 + 6 * k + 1

-- "the last 38 bytes"; "32 bytes in all"
abbrev pub trailer_length : Edition → ℕ
trailer_length e = width_of (groups_of e)

-- "the length less 38"; "the length less 32"
abbrev pub trailer_start : Edition → List ℕ → ℕ
trailer_start e s = length s - trailer_length e

-- "a space and five digits", at a place
abbrev pub group_at : List ℕ → ℕ → Option ℕ
group_at s at = cond (eqb (get_or s at 0) 32) (digits_of 0 (slice (at + 1) (at + 6) s)) None

-- the number of a group
abbrev pub start_at : List ℕ → ℕ → ℕ
start_at s at = number_in (group_at s at)

-- the number of group j of the trailer at t, counted from 0: behind the flag and j groups
abbrev pub group_number : List ℕ → ℕ → ℕ → ℕ
group_number s t j = start_at s (t + 1 + 6 * j)

-- so many groups from a place on, their numbers from `low` on: "they never fall", and the last is `end`
unfoldable pub rising_of : ℕ → List ℕ → ℕ → ℕ → ℕ → Bool
rising_of zero s at low end = eqb low end
rising_of (suc k) s at low end = is_some (group_at s at) && (leb low (start_at s at) && rising_of k s (at + 6) (start_at s at) end)

-- "`F` (flat) or `C` (case start)"; "a small `f` or `c`"
abbrev pub flat_letter : Edition → ℕ
flat_letter First = 70
flat_letter Second = 102

abbrev pub case_letter : Edition → ℕ
case_letter First = 67
case_letter Second = 99

abbrev pub flagged : Edition → ℕ → Bool
flagged e b = eqb b (flat_letter e) || eqb b (case_letter e)

abbrev pub mode_of : Edition → ℕ → AcStart
mode_of e b = cond (eqb b (flat_letter e)) Flat Case

-- the start that a byte asks for, where it is a flag
abbrev pub asked_of : Edition → ℕ → Option AcStart
asked_of e b = cond (flagged e b) (Some (mode_of e b)) None

-- "The byte 32 from the end decides: `f` or `c` there means this edition."
unfoldable pub edition_of : List ℕ → Edition
edition_of s = cond (leb (trailer_length Second) (length s) && flagged Second (get_or s (trailer_start Second s) 0)) Second First

-- behind the flag at t stand k groups, "then LF"; "the first is 0, they never fall, the last is the length less 38", which is t
abbrev pub trailer_by : ℕ → List ℕ → ℕ → Bool
trailer_by k s t = eqb (get_or s (t + 1 + 6 * k) 0) 10 && (eqb (group_number s t 0) 0 && rising_of k s (t + 1) 0 t)

-- an edition's trailer; "a break of any of these rules is refusal 2"
unfoldable pub trailer_of : Edition → List ℕ → ℕ → Bool
trailer_of e s t = flagged e (get_or s t 0) && trailer_by (groups_of e) s t

-- "the numbers are the starts of B, R, G, L, Y and of the trailer"; "five starts (B, R, G, K, itself)": which of them is a section's, counted from 0
abbrev pub index_of : Section → ℕ
index_of Section.B = 0
index_of Section.R = 1
index_of Section.G = 2
index_of Section.L = 3
index_of Section.Y = 4
index_of Section.K = 3

-- the section behind G, and the last one
abbrev pub behind_g : Edition → Section
behind_g First = Section.L
behind_g Second = Section.K

abbrev pub last_of : Edition → Section
last_of First = Section.Y
last_of Second = Section.K

-- an edition's trailer has a section's start, and behind it another number
abbrev pub Starts : Edition → Section → Type 0
Starts e z = index_of z + 1 < groups_of e

-- a section's bytes stand from its start up to the next start
abbrev pub section_start : Section → List ℕ → ℕ → ℕ
section_start z s t = group_number s t (index_of z)

abbrev pub section_end : Section → List ℕ → ℕ → ℕ
section_end z s t = group_number s t (index_of z + 1)

abbrev pub places_of : Edition → List ℕ → ℕ → Places
places_of e s t = record {
  b = section_start Section.B s t;
  r = section_start Section.R s t;
  g = section_start Section.G s t;
  lines = section_start (behind_g e) s t;
  triplets = section_end (behind_g e) s t;
  t = section_end (last_of e) s t;
}

unfoldable pub bytes_of : Section → List ℕ → ℕ → List ℕ
bytes_of z s t = slice (section_start z s t) (section_end z s t) s

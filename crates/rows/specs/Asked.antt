-- What 01, and for K 02's Ask 3, asks of each section: its letter, its fields, its table's size. A section more is a clause more in each of these.
use Rattle.std.specs.Prelude.{ℕ, Bool, cond, ◌||◌, List, eqb, leb, is_some}
use Rattle.fields.specs.Cut.{only}
use Rattle.fields.specs.Digits.{bus_of}
use Rattle.fields.specs.Real.{DigitRule, allowed, real_by, or_nan_by}
use Rattle.rows.specs.declared.Section.{Section}
use Rattle.rows.specs.declared.Want.{Want}

-- the letters B, R, G, L, Y, and K
abbrev pub section_letter : Section → ℕ
section_letter Section.B = 66
section_letter Section.R = 82
section_letter Section.G = 71
section_letter Section.L = 76
section_letter Section.Y = 89
section_letter Section.K = 75

-- "the named number of fields"
abbrev pub field_count : Section → ℕ
field_count Section.B = 8
field_count Section.R = 2
field_count Section.G = 3
field_count Section.L = 2
field_count Section.Y = 4
field_count Section.K = 11

-- "Buses 0 to 32, slack rows 0 to 32, generators 0 to 32, branches 0 to 64, triplets 0 to 256"; K lines "at most 64"
abbrev pub size_of : Section → ℕ
size_of Section.B = 32
size_of Section.R = 32
size_of Section.G = 32
size_of Section.L = 64
size_of Section.Y = 256
size_of Section.K = 64

-- two bus numbers, and reals behind them
abbrev pub ends_first : ℕ → Want
ends_first j = cond (leb 2 j) Want.Plain Want.Bus

-- what field j holds, counted from 0: `B kind vm_set pd qd pg qg vm_case va_case`, `R bus angle`, `G bus qmin qmax`, `L from to`,
-- `Y row col re im`, `K from to g b g_fr b_fr g_to b_to tap shift sw`; "`?` .. is allowed only for vm_case and va_case". Past the last field it does not matter
abbrev pub want_of : Section → ℕ → Want
want_of Section.B j = cond (eqb j 0) Want.Kind (cond (leb 6 j) Want.Stored Want.Plain)
want_of Section.R j = cond (eqb j 0) Want.Bus Want.Plain
want_of Section.G j = cond (eqb j 0) Want.Bus Want.Plain
want_of Section.L j = Want.Bus
want_of Section.Y j = ends_first j
want_of Section.K j = ends_first j

-- whether a field is what is asked, its reals by a digit rule; "kind V (PV) or Q"
abbrev pub good_by : DigitRule → Want → List ℕ → Bool
good_by rule Want.Plain f = is_some (real_by rule f)
good_by rule Want.Stored f = is_some (or_nan_by rule f)
good_by rule Want.Bus f = is_some (bus_of f)
good_by rule Want.Kind f = only 86 f || only 81 f

abbrev pub good_of : Want → List ℕ → Bool
good_of = good_by allowed

-- 01, "Kinds": the columns are the angles of non-slack buses in bus order, then the magnitudes of Q buses. Rows match.
pub mod Laws
use Rattle.std.specs.Prelude.{ℕ, zero, suc, ◌+◌, Bool, true, false, cond, List, eqb, get_or}
use Rattle.layout.specs.declared.BusKind.{BusKind}
use Rattle.layout.specs.declared.BusKind.TheVariants.{Slack, Pv, Pq}
use Rattle.layout.specs.declared.Unknown.{Unknown}
use Rattle.layout.specs.declared.Unknown.TheVariants.{Angle, Magnitude}
use Rattle.layout.specs.declared.AcPfLayout.{AcPfLayout}
use Rattle.layout.specs.Table.{table}

-- a missing column is a marked number
abbrev pub none : ℕ
none = 64

-- the angle, and not the magnitude
abbrev pub is_angle : Unknown → Bool
is_angle Angle = true
is_angle Magnitude = false

-- at a slack bus nothing is unknown, at a V bus the angle, at a Q bus both
abbrev pub has : Unknown → BusKind → Bool
has u Slack = false
has u Pv = is_angle u
has u Pq = true

-- c is the column of what is unknown; what is known has none
abbrev pub number : Bool → ℕ → ℕ
number true c = c
number false c = none

-- and the next column
abbrev pub after : Bool → ℕ → ℕ
after true c = c + 1
after false c = c

abbrev pub kind_of : List BusKind → ℕ → BusKind
kind_of kinds b = get_or kinds b Slack

-- first, and one more for each of the first k buses that has this unknown
unfoldable pub count_to : Unknown → List BusKind → ℕ → ℕ → ℕ
count_to u kinds first zero = first
count_to u kinds first (suc k) = after (has u (kind_of kinds k)) (count_to u kinds first k)

-- a bus's own number is the count of those before it
abbrev pub number_at : Unknown → List BusKind → ℕ → ℕ → ℕ
number_at u kinds first b = number (has u (kind_of kinds b)) (count_to u kinds first b)

-- "angles of non-slack buses in bus order, then magnitudes of Q buses"
abbrev pub first_of : Unknown → ℕ → List BusKind → ℕ
first_of Angle n kinds = 0
first_of Magnitude n kinds = count_to Angle kinds 0 n

-- the layout of the first n buses of these kinds; its size is the number of all columns
unfoldable pub layout_of : ℕ → List BusKind → AcPfLayout
layout_of n kinds =
    record {
      n = n;
      va_of = table n none (number_at Angle kinds (first_of Angle n kinds));
      vm_of = table n none (number_at Magnitude kinds (first_of Magnitude n kinds));
      dim = count_to Magnitude kinds (first_of Magnitude n kinds) n;
    }

-- ---- what is asked of it, beside its size

abbrev pub va_col : AcPfLayout → ℕ → ℕ
va_col l b = get_or l.va_of b 0

abbrev pub vm_col : AcPfLayout → ℕ → ℕ
vm_col l b = get_or l.vm_of b 0

-- rows match: the active row has the angle's number, the reactive row the magnitude's
abbrev pub p_row : AcPfLayout → ℕ → ℕ
p_row l b = va_col l b

abbrev pub q_row : AcPfLayout → ℕ → ℕ
q_row l b = vm_col l b

-- no angle column: slack; an angle but no magnitude column: V; both: Q
abbrev pub kind_in : AcPfLayout → ℕ → BusKind
kind_in l b = cond (eqb (va_col l b) none) Slack (cond (eqb (vm_col l b) none) Pv Pq)

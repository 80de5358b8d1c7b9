-- The layout as it was before request 4 of 02: rows had tables of their own beside the columns'. No code has it any more. It is kept to say that the
-- layout of two tables answers every question as this one did (`same-answers`), and that whatever reads a layout has what it had.
pub mod Laws
use Rattle.std.specs.Prelude.{ℕ, zero, suc, ◌+◌, cond, List, eqb, get_or, Float}
use Rattle.layout.specs.declared.BusKind.{BusKind}
use Rattle.layout.specs.declared.BusKind.TheVariants.{Slack, Pv, Pq}
use Rattle.layout.specs.Table.{table}
use Rattle.layout.specs.Layout.{none, kind_of}
use Rattle.layout.specs.Residual.{Powers, residual_to}

-- ---- its numbers

-- a bus of this kind has an angle column, c, or none; and how many it adds to those before it
abbrev pub angle_col : BusKind → ℕ → ℕ
angle_col Slack c = none
angle_col Pv c = c
angle_col Pq c = c

abbrev pub next_angle : BusKind → ℕ → ℕ
next_angle Slack c = c
next_angle Pv c = c + 1
next_angle Pq c = c + 1

-- the same for a magnitude column
abbrev pub magnitude_col : BusKind → ℕ → ℕ
magnitude_col Slack c = none
magnitude_col Pv c = none
magnitude_col Pq c = c

abbrev pub next_magnitude : BusKind → ℕ → ℕ
next_magnitude Slack c = c
next_magnitude Pv c = c
next_magnitude Pq c = c + 1

-- how many of the first k buses are no slack
unfoldable pub angle_count : ℕ → List BusKind → ℕ
angle_count zero kinds = 0
angle_count (suc k) kinds = next_angle (kind_of kinds k) (angle_count k kinds)

-- first, and one more for each Q bus among the first k
unfoldable pub magnitude_count : ℕ → List BusKind → ℕ → ℕ
magnitude_count zero kinds first = first
magnitude_count (suc k) kinds first = next_magnitude (kind_of kinds k) (magnitude_count k kinds first)

-- a bus's angle column is the number of non-slack buses before it
abbrev pub angle_at : List BusKind → ℕ → ℕ
angle_at kinds b = angle_col (kind_of kinds b) (angle_count b kinds)

-- a Q bus's magnitude column is the number of all angles, and of Q buses before it
abbrev pub magnitude_at : List BusKind → ℕ → ℕ → ℕ
magnitude_at kinds first b = magnitude_col (kind_of kinds b) (magnitude_count b kinds first)

-- ---- its tables

pub record FourTables : Type 0 where
  pub n : ℕ
  pub va_of : List ℕ
  pub vm_of : List ℕ
  pub p_of : List ℕ
  pub q_of : List ℕ
  pub dim : ℕ

-- the rows are copies of the columns
unfoldable pub four_tables_of : ℕ → List BusKind → FourTables
four_tables_of n kinds =
    let angles = table n none (angle_at kinds) in
    let magnitudes = table n none (magnitude_at kinds (angle_count n kinds)) in
    record {
      n = n;
      va_of = angles;
      vm_of = magnitudes;
      p_of = angles;
      q_of = magnitudes;
      dim = magnitude_count n kinds (angle_count n kinds);
    }

-- ---- what was asked of it, beside its size

abbrev pub va_col : FourTables → ℕ → ℕ
va_col l b = get_or l.va_of b 0

abbrev pub vm_col : FourTables → ℕ → ℕ
vm_col l b = get_or l.vm_of b 0

abbrev pub p_row : FourTables → ℕ → ℕ
p_row l b = get_or l.p_of b 0

abbrev pub q_row : FourTables → ℕ → ℕ
q_row l b = get_or l.q_of b 0

abbrev pub kind_in : FourTables → ℕ → BusKind
kind_in l b = cond (eqb (va_col l b) none) Slack (cond (eqb (vm_col l b) none) Pv Pq)

-- the residual that was read off it
abbrev pub residual_of : FourTables → Powers → List Float
residual_of l w = residual_to l.n (p_row l) (q_row l) w

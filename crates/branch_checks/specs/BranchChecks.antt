-- 02, Asks 3 and 5: the refusals of tables of branches that come before 10, in their order: 7, 9, 8, 11, 12, 14 and 15.
pub mod Laws
use Rattle.std.specs.Prelude.{ℕ, Bool, cond, List, [], leb, length, Float, Option, Some, None, Result, Ok, Err}
use Rattle.real.specs.Tests.{both}
use Rattle.network.specs.Network.{Branches}
use Rattle.network.specs.Checks.{counted}
use Rattle.network.specs.Missing.{missing_by, missing_in}
use Rattle.network.specs.BranchTable.{BranchNetwork, values_counted, with_triplets, no_triplets}
use Rattle.ybus.specs.declared.Fault.{Fault}
use Rattle.ybus.specs.declared.Fault.TheVariants as Fault
use Rattle.ybus.specs.Fault.{fault_of}
use Rattle.outcome.specs.declared.Refusal.{Refusal}
use Rattle.outcome.specs.declared.Refusal.TheVariants.{Counts, Room, Tap, Ends}
use Rattle.outcome.specs.declared.Lengths.{Lengths}
use Rattle.outcome.specs.Outcome.{roomy, bus_refusal}

-- how many branches there are
abbrev pub branch_count : BranchNetwork → ℕ
branch_count t = length t.table.ends.from

-- 7, of the tables without triplets as the first edition has it, and of the nine columns of numbers
abbrev pub counted_branches : BranchNetwork → Bool
counted_branches t = both (values_counted (branch_count t) t.table.values) (counted (with_triplets t no_triplets))

-- 9, as the first edition has it, and "an answer column too short" of the flows' five, of which the shortest has so many places
abbrev pub roomy_branches : BranchNetwork → Lengths → ℕ → ℕ → Bool
roomy_branches t m places space = both (roomy (length t.buses.kind) m space) (leb (branch_count t) places)

-- the refusal of a branch at fault
abbrev pub fault_refusal : Option Fault → Result (Unit {0}) Refusal
fault_refusal (Some (Fault.Tap row)) = Err (Tap row)
fault_refusal (Some (Fault.Ends row)) = Err (Ends row)
fault_refusal None = Ok tt

-- 14 and 15 come "after 12": the checks before them go first
abbrev pub then_fault : Result (Unit {0}) Refusal → Option Fault → Result (Unit {0}) Refusal
then_fault (Ok x) f = fault_refusal f
then_fault (Err r) f = Err r

-- 8, 11 and 12, then 14 and 15
abbrev pub checked_rows_of : BranchNetwork → Result (Unit {0}) Refusal
checked_rows_of t = then_fault (bus_refusal (missing_in (with_triplets t no_triplets))) (fault_of t.table.ends t.table.values.tap)

-- the same of the columns that are read for it
abbrev pub checked_rows : ℕ → List ℕ → List ℕ → Branches → List Float → Result (Unit {0}) Refusal
checked_rows n slacks generators ends tap = then_fault (bus_refusal (missing_by n slacks generators ends.from ends.to [] [])) (fault_of ends tap)

-- 7, 9, 8, 11, 12, 14 and 15
unfoldable pub checked_branches_of : BranchNetwork → Lengths → ℕ → ℕ → Result (Unit {0}) Refusal
checked_branches_of t m places space =
    cond (counted_branches t) (cond (roomy_branches t m places space) (checked_rows_of t) (Err Room)) (Err Counts)

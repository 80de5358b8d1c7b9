-- 02, Asks 3 and 5: what the solve over tables of branches answers, and what it leaves in the answer columns of buses and of branches and in the workspace,
-- refusals included.
pub mod Laws
pub mod Withheld
pub mod Space
use Rattle.std.specs.Prelude.{ℕ, ◌≤◌, cond, List, length, Float, Result, Ok, Err}
use Rattle.real.specs.Paper.{is_given}
use Rattle.network.specs.Network.{Network}
use Rattle.network.specs.Checks.{WellIndexed}
use Rattle.network.specs.BranchTable.{BranchTable, BranchNetwork, with_triplets}
use Rattle.ybus.specs.Ybus.{Fit, ybus_of}
use Rattle.flows.specs.declared.Flows.{Flows}
use Rattle.flows.specs.Flows.{with_flows, flows_room}
use Rattle.starts.specs.declared.AcStart.{AcStart}
use Rattle.outcome.specs.declared.Refusal.{Refusal}
use Rattle.outcome.specs.declared.Lengths.{Lengths}
use Rattle.outcome.specs.Outcome.{refusal_paper, Outs, lengths_in, OnePerBus}
use Rattle.tables.specs.Tables.{Answer, answer, after_run, run_of}
use Rattle.branch_checks.specs.BranchChecks.{branch_count, checked_branches_of}

-- ---- the run

-- "with the built list as the triplets"
abbrev pub built_network : BranchNetwork → Network
built_network t = with_triplets t (ybus_of (length t.buses.kind) t.table)

-- what the checks leave: branches that a list can be built from, tables that can be solved with it, room for the answer
pub record ReadyBranches (t : BranchNetwork) (m : Lengths) (places space : ℕ) : Type 0 where
  pub fit : Fit (length t.buses.kind) t.table
  pub indexed : WellIndexed (built_network t)
  pub columns : OnePerBus (length t.buses.kind) m
  pub flows : branch_count t ≤ places
  pub workspace : 6144 ≤ space

-- the answer as the first edition has it, and the columns of the flows
pub record BranchAnswer : Type 0 where
  pub solved : Answer
  pub flows : Flows

abbrev pub branch_answer : Answer → Flows → BranchAnswer
branch_answer a f = record { solved = a; flows = f }

-- "For a solved case": from the voltages that it gives; else the columns stay untouched
abbrev pub flows_after : BranchTable → Answer → Flows → Flows
flows_after t a f = cond (is_given a.paper) (with_flows t a.columns.vm a.columns.va f) f

-- what a run answers, with its flows
abbrev pub ran_branches : AcStart → BranchNetwork → Outs → Flows → List Float → BranchAnswer
ran_branches start t o f w =
    let a = after_run (built_network t) o (run_of start (built_network t) w) in
    branch_answer a (flows_after t.table a f)

-- ---- the call

-- a refusal of the checks leaves all lent memory untouched
abbrev pub after_branch_check : AcStart → BranchNetwork → Outs → Flows → List Float → Result (Unit {0}) Refusal → BranchAnswer
after_branch_check start t o f w (Ok x) = ran_branches start t o f w
after_branch_check start t o f w (Err r) = branch_answer (answer (refusal_paper r) o w) f

unfoldable pub solve_branches_of : AcStart → BranchNetwork → Outs → Flows → List Float → BranchAnswer
solve_branches_of start t o f w = after_branch_check start t o f w (checked_branches_of t (lengths_in o) (flows_room f) (length w))

-- Two slack buses, at the voltages 1 and 2, joined by one branch with the admittance 2 - 8j, computed: the list is built, and its powers and the branch's flow are answered. With a
-- tap that is NaN it is refused 14; with both ends at one bus, 15. Whatever stood in the columns and in the workspace. Assumes nothing.
use Prim.Native.Nat.{ℕ}
use mathlib.Core.Bool.{Bool, true, cond}
use lib.Dec.{leb}
use mathlib.Core.Path.{◌≡◌}
use mathlib.Core.List.{List, [], ◌∷◌}
use lib.ListN.{length, set}
use lib.Ieee.{Float, nan, of_int, of_bits, add, sub, mul, div, neg, lt, le, is_nan}
use Rattle.real.specs.Literals.{double}
use Rattle.real.specs.Tests.{both}
use Rattle.real.specs.Paper.{refused}
use Rattle.real.specs.declared.Value.TheVariants.{Whole}
use Rattle.real.specs.Norm.{norm_of}
use Rattle.real.specs.Real.{absolute}
use Rattle.real.specs.Any.{any_below}
use Rattle.real.specs.First.{first_below}
use Rattle.real.specs.Each.{each}
use Rattle.network.specs.Network.{buses_of, slacks_of, generators_of, branches_of}
use Rattle.network.specs.BranchTable.{BranchNetwork, values_of, branch_table_of, branch_network_of, values_counted}
use Rattle.network.specs.Checks.{counted}
use Rattle.network.specs.Missing.{in_column, in_ends, missing_in}
use Rattle.trig.specs.Sine.{sin_cos_of}
use Rattle.islands.specs.Islands.{group_of, lowest, tally, labels_of}
use Rattle.layout.specs.Kinds.{kinds_of}
use Rattle.layout.specs.Layout.{count_to, layout_of}
use Rattle.layout.specs.Limits.{sum_at, limits_of}
use Rattle.layout.specs.Table.{stores}
use Rattle.injections.specs.Injections.{voltages_of, currents_to, phasors_of, injected_of}
use Rattle.ybus.specs.Branch.{y_ff, y_ft, y_tf, y_tt}
use Rattle.ybus.specs.Fault.{fault_at}
use Rattle.ybus.specs.Listed.{listed}
use Rattle.ybus.specs.Ybus.{diagonal, ybus_of}
use Rattle.newton.specs.Newton.{measured_of, steps_from, newton_of}
use Rattle.moves.specs.Moves.{move_of, moves_of, pinned, kept_kinds, schedule_of, letters_of}
use Rattle.qlim.specs.Rounds.{round_of, rounds_from, qlim_of}
use Rattle.starts.specs.References.{later_row, references_of}
use Rattle.starts.specs.Starts.{flat_of}
use Rattle.starts.specs.declared.AcStart.TheVariants.{Flat}
use Rattle.pf_ac.specs.WithStart.{ac_pf_of}
use Rattle.pf_ac.specs.Search.{nth_start, better_of, try_of, search_from, search_of}
use Rattle.outcome.specs.Outcome.{Outs, outs, ok, lengths_in, roomy, with_answer, zeros}
use Rattle.flows.specs.declared.Flows.{Flows}
use Rattle.flows.specs.Flows.{flow_of, flows_of, with_flows_by, flows_room}
use Rattle.tables.specs.Tables.{answer, run_of}
use Rattle.std.specs.Prelude.{Option, Some, None, Err}
use Rattle.outcome.specs.declared.Refusal.TheVariants.{Room}
use Rattle.ybus.specs.declared.Fault.{Fault}
use Rattle.branch_checks.specs.BranchChecks.{fault_refusal, checked_branches_of}
use Rattle.branch_tables.specs.BranchTables.{BranchAnswer, branch_answer, after_branch_check, solve_branches_of}

-- the branch goes from bus 0, with a tap
abbrev joined : ℕ → Float → BranchNetwork
joined to tap =
    branch_network_of
    (buses_of (81 ∷ 81 ∷ []) (double 1 ∷ double 2 ∷ []) (double 0 ∷ double 0 ∷ []) (double 0 ∷ double 0 ∷ []) (double 0 ∷ double 0 ∷ [])
    (double 0 ∷ double 0 ∷ []) (nan ∷ nan ∷ []) (nan ∷ nan ∷ []))
    (slacks_of (0 ∷ 1 ∷ []) (double 0 ∷ double 0 ∷ []))
    (generators_of [] [] [])
    (branch_table_of (branches_of (0 ∷ []) (to ∷ []))
    (values_of (double 2 ∷ []) (neg (double 8) ∷ []) (double 0 ∷ []) (double 0 ∷ []) (double 0 ∷ []) (double 0 ∷ []) (tap ∷ []) (double 0 ∷ []) (double 1 ∷ [])))

-- the columns with the two buses in their first places (83 is S)
abbrev rows : Outs → Outs
rows o =
    outs (set (set o.vm 0 (double 1)) 1 (double 2)) (set (set o.va 0 (double 0)) 1 (double 0)) (set (set o.p 0 (neg (double 2))) 1 (double 4))
    (set (set o.q 0 (neg (double 8))) 1 (double 16)) (set (set o.kinds 0 83) 1 83)

-- what enters the branch at each end, and its loss
abbrev flow : Flows → Flows
flow f = flows_of (set f.pf 0 (neg (double 2))) (set f.qf 0 (neg (double 8))) (set f.pt 0 (double 4)) (set f.qt 0 (double 16)) (set f.loss 0 (double 2))

-- the answer where the first test of room gives r and the second s, and the branch has the fault x
abbrev checked : BranchNetwork → Outs → Flows → List Float → Option Fault → Bool → Bool → BranchAnswer
checked t o f w x r s = after_branch_check Flat t o f w (cond (both r s) (fault_refusal x) (Err Room))

-- columns that have two places for voltages at least
abbrev lent : Float → Float → Float → Float → Outs → Outs
lent m₀ m₁ a₀ a₁ o = outs (m₀ ∷ m₁ ∷ o.vm) (a₀ ∷ a₁ ∷ o.va) o.p o.q o.kinds

module _ (m₀ m₁ a₀ a₁ : Float) (rest : Outs) (f : Flows) (w : List Float)
    (h : let o = lent m₀ m₁ a₀ a₁ rest in roomy 2 (lengths_in o) (length w) ≡ true) (k : leb 1 (flows_room f) ≡ true) where
  abbrev o : Outs
  o = lent m₀ m₁ a₀ a₁ rest

  pub joined-solved : solve_branches_of Flat (joined 1 (double 1)) o f w ≡ branch_answer (answer (ok 0 (double 0)) (rows o) (zeros w)) (flow f)
  unfolding norm_of absolute sin_cos_of group_of lowest tally each labels_of any_below kinds_of count_to layout_of sum_at limits_of stores voltages_of currents_to phasors_of injected_of y_ff y_ft y_tf y_tt listed diagonal ybus_of flow_of with_flows_by fault_at values_counted measured_of steps_from newton_of move_of moves_of pinned kept_kinds schedule_of letters_of round_of rounds_from qlim_of later_row references_of flat_of ac_pf_of nth_start better_of try_of search_from search_of both first_below in_column in_ends missing_in counted with_answer run_of checked_branches_of solve_branches_of of_int of_bits add sub mul div neg lt le is_nan
  joined-solved = λ i. checked (joined 1 (double 1)) o f w None (h i) (k i)

  pub tap-14 : solve_branches_of Flat (joined 1 nan) o f w ≡ branch_answer (answer (refused 14 (Whole 0 ∷ [])) o w) f
  unfolding both first_below in_column in_ends missing_in counted values_counted fault_at checked_branches_of solve_branches_of of_int of_bits lt
  tap-14 = λ i. checked (joined 1 nan) o f w (Some (Fault.Tap 0)) (h i) (k i)

  pub ends-15 : solve_branches_of Flat (joined 0 (double 1)) o f w ≡ branch_answer (answer (refused 15 (Whole 0 ∷ [])) o w) f
  unfolding both first_below in_column in_ends missing_in counted values_counted fault_at checked_branches_of solve_branches_of of_int of_bits lt
  ends-15 = λ i. checked (joined 0 (double 1)) o f w (Some (Fault.Ends 0)) (h i) (k i)

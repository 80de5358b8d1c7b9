-- Demand 3, of the solve over branches: tables that differ only in 01's "Withheld columns", solved with the same lent buffers, give the same answer, columns of
-- buses and of flows, and workspace, refusals included. Of a branch nothing is withheld. Assumes nothing.
use Rattle.std.specs.Prelude.{◌≤◌, List, ◌≡◌, leb, length, Float, Result, Ok, Err}
use Rattle.std.proofs.Math.Bool.{cond}
use Rattle.std.proofs.Math.Path.{refl, ap}
use Rattle.std.proofs.Common.{◌∙◌}
use Rattle.real.specs.Tests.{both}
use Rattle.network.specs.BranchTable.{BranchNetwork, with_triplets, no_triplets, values_counted}
use Rattle.network.specs.Network.{Triplets}
use Rattle.ybus.specs.Fault.{fault_of}
use Rattle.ybus.specs.Ybus.{ybus_of}
use Rattle.flows.specs.declared.Flows.{Flows}
use Rattle.flows.specs.Flows.{flows_room}
use Rattle.starts.specs.declared.AcStart.{AcStart}
use Rattle.pf_ac.specs.WithStart.Withheld.{kind_for, AlikeBuses, AlikeGenerators, Alike}
use Rattle.outcome.specs.declared.Refusal.{Refusal}
use Rattle.outcome.specs.declared.Refusal.TheVariants.{Counts, Room}
use Rattle.outcome.specs.Outcome.{Outs, lengths_in, roomy, bus_refusal}
use Rattle.tables.specs.Tables.Withheld.{counted_same, missing-same, ready-same}
use Rattle.branch_checks.specs.BranchChecks.{then_fault, checked_branches_of}
use Rattle.branch_tables.specs.BranchTables.{built_network, branch_answer, flows_after, ran_branches, after_branch_check, solve_branches_of}
use Rattle.branch_tables.specs.BranchTables.Laws.{ready-branches}

-- buses, slack rows and generators alike as 01 has it, and all of the branches
pub record AlikeBranches (start : AcStart) (t u : BranchNetwork) : Type 0 where
  pub buses : AlikeBuses start (kind_for (with_triplets t no_triplets)) t.buses u.buses
  pub slacks : t.slacks ≡ u.slacks
  pub generators : AlikeGenerators (kind_for (with_triplets t no_triplets)) t.generators u.generators
  pub table : t.table ≡ u.table

module _ (start : AcStart) (t u : BranchNetwork) (a : AlikeBranches start t u) (o : Outs) (f : Flows) (w : List Float) where
  -- with the same triplets they are alike as tables of the first edition
  alike-with : (y z : Triplets) → y ≡ z → Alike start (with_triplets t y) (with_triplets u z)
  alike-with y z e =
      record { buses = a.buses; slacks = a.slacks; generators = a.generators; branches = λ i. (a.table i).ends; triplets = e }

  abbrev alike_bare : Alike start (with_triplets t no_triplets) (with_triplets u no_triplets)
  alike_bare = alike-with no_triplets no_triplets refl

  -- and the same list is built
  list_same : ybus_of (length t.buses.kind) t.table ≡ ybus_of (length u.buses.kind) u.table
  list_same = λ i. ybus_of (length (a.buses.kind i)) (a.table i)

  checked-branches-same : checked_branches_of t (lengths_in o) (flows_room f) (length w) ≡ checked_branches_of u (lengths_in o) (flows_room f) (length w)
  unfolding checked_branches_of
  checked-branches-same = λ i.
      let k = a.table i in
      cond (both (values_counted (length k.ends.from) k.values) (counted_same start _ _ alike_bare o w i))
      (cond (both (roomy (length (a.buses.kind i)) (lengths_in o) (length w)) (leb (length k.ends.from) (flows_room f)))
      (then_fault (bus_refusal (missing-same start _ _ alike_bare o w i)) (fault_of k.ends k.values.tap))
      (Err Room))
      (Err Counts)

  -- the flows are worked out from branches and voltages that agree
  ran-same : length t.buses.kind ≤ 32 → ran_branches start t o f w ≡ ran_branches start u o f w
  ran-same few = λ i.
      let x = ready-same start (built_network t) (built_network u) (alike-with _ _ list_same) o w few i in
      branch_answer x (flows_after (a.table i) x f)

  pub branches-withheld : solve_branches_of start t o f w ≡ solve_branches_of start u o f w
  unfolding solve_branches_of
  branches-withheld = go (checked_branches_of t (lengths_in o) (flows_room f) (length w)) refl ∙ ap (after_branch_check start u o f w) checked-branches-same
    where
      go : (c : Result (Unit {0}) Refusal) → c ≡ checked_branches_of t (lengths_in o) (flows_room f) (length w) → after_branch_check start t o f w c ≡ after_branch_check start u o f w c
      go (Ok x) e = ran-same (ready-branches t (lengths_in o) (flows_room f) (length w) e).fit.few
      go (Err r) e = refl

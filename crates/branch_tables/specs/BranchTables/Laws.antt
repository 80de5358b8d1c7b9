-- What a solve is once the checks are met, and that the contract fixes everything.
use Rattle.std.specs.Prelude.{ℕ, ◌<◌, true, false, List, ◌≡◌, length, Float, Result, Ok, Err}
use Rattle.std.proofs.Math.Bool.{cond}
use Rattle.std.proofs.Math.Path.{refl, ap}
use Rattle.std.proofs.Common.{sym, ◌∙◌, arith, leb-true}
use Rattle.real.specs.declared.Value.{Value}
use Rattle.real.specs.Paper.{given, refused, is_given}
use Rattle.real.specs.Tests.{both_l, both_r}
use Rattle.network.specs.Checks.{WellIndexed}
use Rattle.network.specs.Checks.Laws.{well-indexed}
use Rattle.network.specs.BranchTable.{BranchNetwork, with_triplets, no_triplets}
use Rattle.network.specs.BranchTable.Laws.{values-sized}
use Rattle.ybus.specs.declared.Entries.{Entries}
use Rattle.ybus.specs.Fault.Laws.{nothing-told}
use Rattle.ybus.specs.declared.Admittance.{Admittance}
use Rattle.ybus.specs.Ybus.{Fit, entries_of, list_in, admittances_of, admittance_at}
use Rattle.ybus.specs.Ybus.Laws.{at_most, list-good, OneDiagonal, one-diagonal, entries-list}
use Rattle.flows.specs.declared.Flows.{Flows}
use Rattle.flows.specs.Flows.{with_flows_by, with_flows, flows_room}
use Rattle.flows.specs.Flows.Laws.{flows-of-table}
use Rattle.starts.specs.declared.AcStart.{AcStart}
use Rattle.outcome.specs.declared.Solved.{Solved}
use Rattle.outcome.specs.declared.Refusal.{Refusal}
use Rattle.outcome.specs.declared.Lengths.{Lengths}
use Rattle.outcome.specs.Outcome.{paper_of, refusal_paper, Outs, lengths_in}
use Rattle.outcome.specs.Outcome.Laws.{one-per-bus}
use Rattle.tables.specs.Tables.{Answer, checked_of, run_of, answer, after_run, solve_of}
use Rattle.tables.specs.Tables.Laws.{met-ready, answer-one}
use Rattle.branch_checks.specs.BranchChecks.{counted_branches, roomy_branches, checked_rows_of, checked_branches_of}
use Rattle.branch_checks.specs.BranchChecks.Laws.{Passed, MetBranches, met-branches}
use Rattle.branch_tables.specs.BranchTables.{built_network, ReadyBranches, branch_answer, ran_branches, after_branch_check, solve_branches_of}

-- ---- tables that pass the checks before 14 and 15

module _ (t : BranchNetwork) (m : Lengths) (places space : ℕ) (passed : Passed t m places space) where
  bare-indexed : WellIndexed (with_triplets t no_triplets)
  bare-indexed = well-indexed _ (both_r _ _ passed.counts) passed.none_missing

  -- a list can be built from the branches
  passed-fit : Fit (length t.buses.kind) t.table
  passed-fit =
      let h = bare-indexed in
      record {
        few = h.buses.few;
        ends = h.branches;
        values = values-sized _ t.table.values (both_l _ _ passed.counts);
        from_below = h.branch_from;
        to_below = h.branch_to;
      }

  -- and with it the tables are what the first edition's solve asks for
  passed-indexed : WellIndexed (built_network t)
  passed-indexed =
      let h = bare-indexed in
      let y = list-good _ t.table passed-fit in
      record {
        buses = h.buses;
        slacks = h.slacks;
        generators = h.generators;
        branches = h.branches;
        triplets = record { few = omega (arith, at_most _ t.table passed-fit); col = y.cols; re = y.res; im = y.ims };
        slack_bus = h.slack_bus;
        generator_bus = h.generator_bus;
        branch_from = h.branch_from;
        branch_to = h.branch_to;
        triplet_row = y.rows_below;
        triplet_col = y.cols_below;
      }

  passed-ready : ReadyBranches t m places space
  passed-ready =
      let room = one-per-bus _ _ _ (both_l _ _ passed.room) in
      record { fit = passed-fit; indexed = passed-indexed; columns = room.0; flows = leb-true _ _ (both_r _ _ passed.room); workspace = room.1 }

  pub built-ready : Ok tt ≡ checked_of (built_network t) m space
  built-ready = met-ready (built_network t) m space passed-indexed (both_l _ _ passed.room)

-- ---- what it tells that the tables are ready

module _ (t : BranchNetwork) (m : Lengths) (places space : ℕ) (ready : Ok tt ≡ checked_branches_of t m places space) where
  abbrev all_met : MetBranches t m places space
  all_met = met-branches t m places space ready

  pub ready-branches : ReadyBranches t m places space
  ready-branches = passed-ready t m places space all_met.passed

  -- "the Jacobian's one diagonal triplet per bus" is there in every case that is solved
  pub ready-diagonal : (b : ℕ) → b < length t.buses.kind → OneDiagonal (built_network t).triplets b
  ready-diagonal =
      one-diagonal _ t.table ready-branches.fit (λ e l. (nothing-told t.table.ends t.table.values.tap all_met.none_at_fault e l).apart)

-- ---- the call

-- the tables with the list that the entries hold are the built ones
module _ {t : BranchNetwork} {m : Lengths} {places space : ℕ} (ready : ReadyBranches t m places space) (y : Entries) (e : y ≡ entries_of (length t.buses.kind) t.table) where
  pub listed-indexed : WellIndexed (with_triplets t (list_in y))
  listed-indexed = rw (e, entries-list ready.fit) ready.indexed

  listed_answer : (start : AcStart) (o : Outs) (w : List Float) (a : Answer)
      → a ≡ after_run (with_triplets t (list_in y)) o (run_of start (with_triplets t (list_in y)) w) → a ≡ after_run (built_network t) o (run_of start (built_network t) w)
  listed_answer start o w a h = rw (e, entries-list ready.fit) at h

  module _ (start : AcStart) (o : Outs) (f : Flows) (w : List Float) (a : Answer)
      (h : a ≡ after_run (with_triplets t (list_in y)) o (run_of start (with_triplets t (list_in y)) w)) where
    -- the flows of a solved answer are written, from the branches' own admittances
    pub ran-solved : is_given a.paper ≡ true → (z : List Admittance) → z ≡ admittances_of (length t.table.values.g) t.table.values → (g : Flows)
        → g ≡ with_flows_by t.table.ends (admittance_at z) a.columns.vm a.columns.va f → branch_answer a g ≡ ran_branches start t o f w
    ran-solved s z x g k =
        rw (← listed_answer start o w a h, s, flows-of-table t.table z a.columns.vm a.columns.va f g ready.fit.values.g ready.fit.ends.few x k)

    -- those of another stay
    pub ran-refused : is_given a.paper ≡ false → branch_answer a f ≡ ran_branches start t o f w
    ran-refused s = rw (← listed_answer start o w a h, s)

module _ (start : AcStart) (t : BranchNetwork) (o : Outs) (f : Flows) (w : List Float) where
  -- a refusal of the checks leaves all lent memory untouched
  pub branches-refused : (r : Refusal) → Err r ≡ checked_branches_of t (lengths_in o) (flows_room f) (length w)
      → branch_answer (answer (refusal_paper r) o w) f ≡ solve_branches_of start t o f w
  unfolding solve_branches_of
  branches-refused r e = rw (← e)

  pub branches-ready : Ok tt ≡ checked_branches_of t (lengths_in o) (flows_room f) (length w) → ran_branches start t o f w ≡ solve_branches_of start t o f w
  unfolding solve_branches_of
  branches-ready e = rw (← e)

  -- where 7 and 9 are out, what is left: 8, 11 or 12, then 14 or 15, or the run
  pub branches-never-7-9 : counted_branches t ≡ true → roomy_branches t (lengths_in o) (flows_room f) (length w) ≡ true
      → solve_branches_of start t o f w ≡ after_branch_check start t o f w (checked_rows_of t)
  unfolding solve_branches_of checked_branches_of
  branches-never-7-9 h k = rw (h, k)

  -- demand 2: tables that are ready are solved as the first edition's are, with the built list as the triplets
  pub solved-as-built : Ok tt ≡ checked_branches_of t (lengths_in o) (flows_room f) (length w) → (solve_branches_of start t o f w).solved ≡ solve_of start (built_network t) o w
  unfolding solve_of
  solved-as-built e =
      ap (λ a. a.solved) (sym (branches-ready e))
      ∙ rw (← built-ready t (lengths_in o) (flows_room f) (length w) (met-branches t (lengths_in o) (flows_room f) (length w) e).passed)

  -- 02, Ask 5: of a solved case the flows are those of the voltages answered
  pub flows-solved : (found : ℕ × Float) → Ok tt ≡ checked_branches_of t (lengths_in o) (flows_room f) (length w)
      → (solve_branches_of start t o f w).solved.paper ≡ given found
      → let a = solve_branches_of start t o f w in a.flows ≡ with_flows t.table a.solved.columns.vm a.solved.columns.va f
  flows-solved found ready e =
      let p = ap (λ a. a.solved.paper) (branches-ready ready) ∙ e in
      let c = (ran_branches start t o f w).solved.columns in
      rw (← branches-ready ready) (λ i. cond (is_given (p i)) (with_flows t.table c.vm c.va f) f)

  -- and "an answer column" of any other is untouched
  pub flows-kept : (n : ℕ) (values : List Value) → (solve_branches_of start t o f w).solved.paper ≡ refused n values → (solve_branches_of start t o f w).flows ≡ f
  unfolding solve_branches_of
  flows-kept n values = go (checked_branches_of t (lengths_in o) (flows_room f) (length w))
    where
      go : (c : Result (Unit {0}) Refusal) → (after_branch_check start t o f w c).solved.paper ≡ refused n values → (after_branch_check start t o f w c).flows ≡ f
      go (Ok x) e =
          let c = (ran_branches start t o f w).solved.columns in
          λ i. cond (is_given (e i)) (with_flows t.table c.vm c.va f) f
      go (Err r) e = refl

  -- two outcomes that meet the call's contract are equal, lent memory included
  pub solve-branches-one : (r s : Result Solved Refusal) (o₁ o₂ : Outs) (f₁ f₂ : Flows) (w₁ w₂ : List Float) → branch_answer (answer (paper_of r) o₁ w₁) f₁ ≡ solve_branches_of start t o f w
      → branch_answer (answer (paper_of s) o₂ w₂) f₂ ≡ solve_branches_of start t o f w → ((r ≡ s) × (o₁ ≡ o₂) × (w₁ ≡ w₂)) × (f₁ ≡ f₂)
  solve-branches-one r s o₁ o₂ f₁ f₂ w₁ w₂ h k =
      (answer-one (solve_branches_of start t o f w).solved r s o₁ o₂ w₁ w₂ (ap (λ a. a.solved) h) (ap (λ a. a.solved) k), ap (λ a. a.flows) (h ∙ sym k))

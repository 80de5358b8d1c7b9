-- Nothing lent before can show, of the solve over branches: the answer, the answer columns and the flows depend on the workspace only by its length. Assumes nothing.
use Rattle.std.specs.Prelude.{List, ◌≡◌, refl, length, Float, Result, Ok, Err}
use Rattle.std.proofs.Common.{sym, ap, ◌∙◌}
use Rattle.network.specs.BranchTable.{BranchNetwork}
use Rattle.flows.specs.declared.Flows.{Flows}
use Rattle.flows.specs.Flows.{flows_room}
use Rattle.starts.specs.declared.AcStart.{AcStart}
use Rattle.outcome.specs.declared.Refusal.{Refusal}
use Rattle.outcome.specs.Outcome.{Outs, lengths_in, refusal_paper}
use Rattle.tables.specs.Tables.{answer, after_run}
use Rattle.tables.specs.Tables.Space.{run-space}
use Rattle.branch_checks.specs.BranchChecks.{checked_branches_of}
use Rattle.branch_checks.specs.BranchChecks.Laws.{met-branches}
use Rattle.branch_tables.specs.BranchTables.{built_network, BranchAnswer, branch_answer, flows_after, solve_branches_of}
use Rattle.branch_tables.specs.BranchTables.Laws.{built-ready, branches-refused, branches-ready}

module _ (start : AcStart) (t : BranchNetwork) (o : Outs) (f : Flows) (w v : List Float) (size : length w ≡ length v) where
  -- where the checks are met the whole answer is the same, the flows and the workspace included
  pub branches-ready-space : Ok tt ≡ checked_branches_of t (lengths_in o) (flows_room f) (length w) → solve_branches_of start t o f w ≡ solve_branches_of start t o f v
  branches-ready-space e =
      let ready = built-ready t (lengths_in o) (flows_room f) (length w) (met-branches t (lengths_in o) (flows_room f) (length w) e).passed in
      sym (branches-ready start t o f w e)
      ∙ (λ i. let a = after_run (built_network t) o (run-space start (built_network t) o w v size ready i) in branch_answer a (flows_after t.table a f))
      ∙ branches-ready start t o f v (rw size at e)

  -- and a refusal of the checks reads only how long the workspace is
  branches-same-but : {B : Type 0} (g : BranchAnswer → B) → ((r : Refusal) → g (branch_answer (answer (refusal_paper r) o w) f) ≡ g (branch_answer (answer (refusal_paper r) o v) f))
      → g (solve_branches_of start t o f w) ≡ g (solve_branches_of start t o f v)
  branches-same-but g h = go (checked_branches_of t (lengths_in o) (flows_room f) (length w)) refl
    where
      go : (c : Result (Unit {0}) Refusal) → c ≡ checked_branches_of t (lengths_in o) (flows_room f) (length w) → g (solve_branches_of start t o f w) ≡ g (solve_branches_of start t o f v)
      go (Ok x) e = ap g (branches-ready-space e)
      go (Err r) e = ap g (sym (branches-refused start t o f w r e)) ∙ h r ∙ ap g (branches-refused start t o f v r (rw size at e))

  -- of all tables, taken or refused
  pub branches-answer-space : (solve_branches_of start t o f w).solved.paper ≡ (solve_branches_of start t o f v).solved.paper
  branches-answer-space = branches-same-but (λ a. a.solved.paper) (λ r. refl)

  pub branches-columns-space : (solve_branches_of start t o f w).solved.columns ≡ (solve_branches_of start t o f v).solved.columns
  branches-columns-space = branches-same-but (λ a. a.solved.columns) (λ r. refl)

  pub branches-flows-space : (solve_branches_of start t o f w).flows ≡ (solve_branches_of start t o f v).flows
  branches-flows-space = branches-same-but (λ a. a.flows) (λ r. refl)

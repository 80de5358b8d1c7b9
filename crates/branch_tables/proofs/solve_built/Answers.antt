-- `branch_tables::solve_built` meets its contract: the list is what the solve asks for, and its answer what the flows ask for.
use Rattle.std.specs.Prelude.{◌≡◌, refl, length}
use Rattle.std.proofs.Common.{ap, ◌∙◌, arith}
use Rattle.std.proofs.lemmas.Result.{err_from_is_err_and}
use Rattle.network.specs.Network.{bus_count}
use Rattle.network.specs.Columns.{network_in, branch_network_in}
use Rattle.network.specs.BranchTable.{with_triplets}
use Rattle.ybus.specs.Ybus.{Filled, list_in}
use Rattle.ybus.specs.Ybus.Laws.{entries-filled}
use Rattle.outcome.specs.Outcome.Laws.{never-given}
use Rattle.branch_tables.specs.BranchTables.Laws.{listed-indexed, ran-solved, ran-refused}
use Rattle.branch_tables.proofs.solve_built.Goals as goal
use Rattle.branch_tables.proofs.solve_built.Goals.{After-with_triplets-built, After-read-a}

-- the built tables are those of the branches with the list
built : (c : After-with_triplets-built) → network_in c.with_triplets-built.result ≡ with_triplets (branch_network_in c.args.t) (list_in c.build_ybus-y.result)
built c = c.with_triplets-built.ensures ∙ ap (with_triplets (branch_network_in c.args.t)) c.triplets.ensures

pub triplets-requires : goal.triplets-requires
triplets-requires c = let y : Filled c.build_ybus-y.result = rw c.build_ybus-y.ensures (entries-filled c.requires.fit) in y.few

pub solve_ready-requires : goal.solve_ready-requires
solve_ready-requires c =
    let b = built (goal.at.solve_ready-requires c).After-with_triplets-built in
    (rw b (listed-indexed c.requires _ c.build_ybus-y.ensures), rw (ap bus_count b) c.requires.columns, c.requires.workspace)

pub returns-in_err-solved-clause-answer : goal.returns-in_err-solved-clause-answer
returns-in_err-solved-clause-answer c =
    let p = err_from_is_err_and c.from_residual.result c.from_residual.ensures.1 in
    let answered = rw (built (goal.at.returns-in_err-solved-clause-answer c).After-with_triplets-built) at c.solve_ready.ensures.answer in
    rw (p.1, p.2) (ran-refused c.requires _ c.build_ybus-y.ensures _ _ _ _ _ (rw c.in_err-solved.was at answered) (never-given c.in_err-solved.field-0.0))

-- the ends of a branch have voltages
pub write_flows-requires-clause-below : goal.write_flows-requires-clause-below
write_flows-requires-clause-below c =
    let s = c.requires in
    let vm : length c.read-a.result.vm.now ≡ length c.args.out.now.vm.now = ap (λ o. length o.vm) c.read-a.ensures ∙ c.solve_ready.ensures.same_columns.vm.1 in
    let va : length c.read-a.result.va.now ≡ length c.args.out.now.va.now = ap (λ o. length o.va) c.read-a.ensures ∙ c.solve_ready.ensures.same_columns.va.1 in (
      λ k h. omega (arith, s.fit.from_below k h, s.columns.vm, vm),
      λ k h. omega (arith, s.fit.from_below k h, s.columns.va, va),
      λ k h. omega (arith, s.fit.to_below k h, s.columns.vm, vm),
      λ k h. omega (arith, s.fit.to_below k h, s.columns.va, va),
    )

pub returns-clause-answer : goal.returns-clause-answer
returns-clause-answer c =
    let answered = rw (built (goal.at.returns-clause-answer c).After-with_triplets-built) at c.solve_ready.ensures.answer in
    ran-solved c.requires _ c.build_ybus-y.ensures _ _ _ _ _ (rw c.in_ok-solved.was at answered) refl _ c.admittances-all.ensures _ (rw (ap (λ o. o.vm) c.read-a.ensures, ap (λ o. o.va) c.read-a.ensures) at c.write_flows.ensures.flows)

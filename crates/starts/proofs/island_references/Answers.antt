-- `starts::island_references` meets its contract: the buses passed have their island's slack and reference. Assumes nothing.
use mathlib.Core.Path.{◌≡◌, ap, ◌∙◌}
use native.Mathlib.Omega.{arith}
use native.Mathlib.Numerals.{add-one}
use borrow.Author.Rules.{rules}
use lib.ListN.{get_or, set}
use lib.Ieee.{nan}
use Rattle.std.specs.Prelude.{None}
use Rattle.layout.specs.Table.{stores}
use Rattle.starts.specs.declared.References.{References}
use Rattle.starts.specs.References.{references_of}
use Rattle.starts.specs.References.Laws.{label_small, row_at}
use Rattle.starts.proofs.island_references.Goals as goal

pub by_island-island-requires : goal.by_island-island-requires
by_island-island-requires c = (
  c.requires.1,
  λ i h. let k = c.requires.2 i h in omega arith,
  λ i h. (let a = c.args in
      label_small a.n a.slacks.bus.now a.branches.from.now a.branches.to.now c.dense_islands-labels.result c.requires.0 c.requires.2 c.dense_islands-labels.ensures _ (c.requires.2 i h)),
)

pub loop-b-init : goal.loop-b-init
unfolding stores
loop-b-init c = search rules

pub offset_bounds-island-l : goal.offset_bounds-island-l
offset_bounds-island-l c = omega (
  arith,
  ((let a = c.args in
      label_small a.n a.slacks.bus.now a.branches.from.now a.branches.to.now c.dense_islands-labels.result c.requires.0 c.requires.2 c.dense_islands-labels.ensures c.loop-b.b (omega arith))),
)

pub bounds-island-l : goal.bounds-island-l
bounds-island-l c = omega (
  arith,
  ((let a = c.args in
      label_small a.n a.slacks.bus.now a.branches.from.now a.branches.to.now c.dense_islands-labels.result c.requires.0 c.requires.2 c.dense_islands-labels.ensures c.loop-b.b (omega arith))),
)

pub offset_bounds-island-l-in-loop-b : goal.offset_bounds-island-l-in-loop-b
offset_bounds-island-l-in-loop-b c = omega (
  arith,
  ((let a = c.args in
      label_small a.n a.slacks.bus.now a.branches.from.now a.branches.to.now c.dense_islands-labels.result c.requires.0 c.requires.2 c.dense_islands-labels.ensures c.loop-b.b (omega arith))),
)

pub bounds-island-l-in-loop-b : goal.bounds-island-l-in-loop-b
bounds-island-l-in-loop-b c = omega (
  arith,
  ((let a = c.args in
      label_small a.n a.slacks.bus.now a.branches.from.now a.branches.to.now c.dense_islands-labels.result c.requires.0 c.requires.2 c.dense_islands-labels.ensures c.loop-b.b (omega arith))),
)

pub loop-b-preserved : goal.loop-b-preserved
unfolding stores
loop-b-preserved c =
    let l = c.loop-b in
    let by = c.by_island-island.ensures in
    let at = get_or c.dense_islands-labels.result l.b 0 in (
      omega arith,
      rw (add-one, ← l.invariant.1) (ap (set l.slack l.b) (ap (λ (r : References). get_or r.slack at None) by ∙ row_at c.args.n c.args.slacks.bus.now c.args.branches.from.now c.args.branches.to.now c.dense_islands-labels.result c.requires.0 c.requires.2 c.dense_islands-labels.ensures _ _ _ l.b (omega arith))),
      rw (add-one, ← l.invariant.2) (ap (set l.va l.b) (ap (λ (r : References). get_or r.va at nan) by ∙ row_at c.args.n c.args.slacks.bus.now c.args.branches.from.now c.args.branches.to.now c.dense_islands-labels.result c.requires.0 c.requires.2 c.dense_islands-labels.ensures _ _ _ l.b (omega arith))),
    )

pub returns : goal.returns
unfolding references_of
returns c =
    let l = c.loop-b in
    let e : l.b ≡ c.args.n = omega arith in
    rw (← e, l.invariant.1, l.invariant.2)

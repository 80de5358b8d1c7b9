-- `layout::default_kinds` meets its contract: after each row its bus is a slack. Assumes nothing.
use Rattle.std.proofs.Common.{◌≡◌}
use Rattle.layout.specs.declared.BusKind.TheVariants.{Pq}
use Rattle.layout.specs.Table.{table}
use Rattle.layout.specs.Kinds.{kind_at}
use Rattle.layout.proofs.default_kinds.Given as goal

abbrev pub invariant-loop-b : goal.invariant-loop-b
invariant-loop-b l = l.kinds ≡ table l.n Pq (kind_at l.b-index l.kind l.slacks)

-- `layout::numbers` meets its contract: the places passed hold their numbers, and the next one follows them. Assumes nothing.
use Prim.Native.Nat.{◌+◌, ◌≤◌}
use lib.ListN.{replicate}
use Rattle.layout.specs.Table.Laws.{Counted, Stored}
use Rattle.layout.specs.Layout.{none, number_at, count_to}
use Rattle.layout.proofs.numbers.Given as goal

abbrev pub invariant-loop-b : goal.invariant-loop-b
invariant-loop-b l = Stored (number_at l.u l.kinds l.first) (replicate 32 none) l.n l.b l.of × Counted (count_to l.u l.kinds l.first) l.n l.b l.col × (l.col ≤ l.first + l.b)

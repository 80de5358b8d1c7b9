-- `ybus::bus_numbers` meets its contract: the places passed hold their own numbers. Assumes nothing.
use Prim.Native.Nat.{◌-◌}
use lib.ListN.{replicate}
use Rattle.layout.specs.Table.Laws.{Stored}
use Rattle.ybus.proofs.bus_numbers.Given as goal

abbrev pub invariant-loop-b : goal.invariant-loop-b
invariant-loop-b l = Stored (λ i. i) (replicate 160 0) l.n l.b l.l

abbrev pub decreases-loop-b : goal.decreases-loop-b
decreases-loop-b l = l.n - l.b

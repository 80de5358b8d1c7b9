-- `injections::voltages` meets its contract: the places passed hold their polar numbers. Assumes nothing.
use Prim.Native.Nat.{◌-◌}
use lib.ListN.{replicate}
use Rattle.complex.specs.Numbers as Numbers
use Rattle.layout.specs.Table.Laws.{Stored}
use Rattle.injections.specs.Injections.{voltage_at}
use Rattle.injections.proofs.voltages.Given as goal

abbrev pub invariant-loop-b : goal.invariant-loop-b
invariant-loop-b l = Stored (voltage_at l.p.vm l.p.va) (replicate 32 Numbers.zero) l.n l.b l.v

abbrev pub decreases-loop-b : goal.decreases-loop-b
decreases-loop-b l = l.n - l.b

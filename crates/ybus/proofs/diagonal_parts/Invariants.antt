-- `ybus::diagonal_parts` meets its contract: the places passed hold their sums. Assumes nothing.
use Prim.Native.Nat.{◌-◌}
use lib.ListN.{replicate}
use Rattle.real.specs.Literals.{nought}
use Rattle.layout.specs.Table.Laws.{Stored}
use Rattle.ybus.specs.Ybus.{sum_at}
use Rattle.ybus.proofs.diagonal_parts.Given as goal

abbrev pub invariant-loop-b : goal.invariant-loop-b
invariant-loop-b l = Stored (λ i. (sum_at l.d i).re) (replicate 160 nought) l.n l.b l.re × Stored (λ i. (sum_at l.d i).im) (replicate 160 nought) l.n l.b l.im

abbrev pub decreases-loop-b : goal.decreases-loop-b
decreases-loop-b l = l.n - l.b

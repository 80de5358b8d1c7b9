-- `injections::bus_powers` meets its contract: the places passed hold their powers. Assumes nothing.
use Prim.Native.Nat.{◌-◌}
use lib.ListN.{replicate}
use Rattle.real.specs.Literals.{nought}
use Rattle.layout.specs.Table.Laws.{Stored}
use Rattle.injections.specs.Injections.{power_at}
use Rattle.injections.proofs.bus_powers.Given as goal

abbrev pub invariant-loop-b : goal.invariant-loop-b
invariant-loop-b l = Stored (λ k. (power_at l.s k).re) (replicate 32 nought) l.n l.b l.p
    × Stored (λ k. (power_at l.s k).im) (replicate 32 nought) l.n l.b l.q

abbrev pub decreases-loop-b : goal.decreases-loop-b
decreases-loop-b l = l.n - l.b

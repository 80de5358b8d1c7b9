-- `layout::aggregate_q` meets its contract: after each generator the three tables are those of the generators passed. Assumes nothing.
use Prim.Native.Nat.{◌≤◌}
use mathlib.Core.Path.{◌≡◌}
use mathlib.Core.Bool.{false}
use lib.ListN.{length}
use Rattle.real.specs.Literals.{nought}
use Rattle.layout.specs.Table.{table}
use Rattle.layout.specs.Limits.{sum_at}
use Rattle.layout.specs.Kinds.{listed}
use Rattle.layout.proofs.aggregate_q.Given as goal

abbrev pub invariant-loop-g : goal.invariant-loop-g
invariant-loop-g l = (l.g ≤ l.g-end) × (l.g-end ≡ length l.gens.bus.now) × (l.qmin ≡ table 32 nought (sum_at l.g l.gens.bus.now l.gens.qmin.now)) × (l.qmax ≡ table 32 nought (sum_at l.g l.gens.bus.now l.gens.qmax.now))
    × (l.has_gen ≡ table 32 false (listed l.g l.gens.bus.now))

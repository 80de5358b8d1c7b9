-- `ybus::diagonals` meets its contract: the sums are those of the branches passed. Assumes nothing.
use Prim.Native.Nat.{◌-◌, ◌≤◌}
use mathlib.Core.Path.{◌≡◌}
use lib.ListN.{length}
use Rattle.network.specs.Columns.{branches_in}
use Rattle.ybus.specs.Ybus.{sums_to}
use Rattle.ybus.proofs.diagonals.Given as goal

abbrev pub invariant-loop-e : goal.invariant-loop-e
invariant-loop-e l = (l.e ≤ l.e-end) × (l.e-end ≡ length l.ends.from.now) × (l.d ≡ sums_to l.e (branches_in l.ends) l.y)

abbrev pub decreases-loop-e : goal.decreases-loop-e
decreases-loop-e l = l.e-end - l.e

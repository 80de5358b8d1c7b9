-- `injections::currents` meets its contract: the currents are those of the triplets passed. Assumes nothing.
use Prim.Native.Nat.{◌-◌, ◌≤◌}
use mathlib.Core.Path.{◌≡◌}
use lib.ListN.{length}
use Rattle.network.specs.Columns.{triplets_in}
use Rattle.injections.specs.Injections.{currents_to}
use Rattle.injections.proofs.currents.Given as goal

abbrev pub invariant-loop-t : goal.invariant-loop-t
invariant-loop-t l = (l.t ≤ l.t-end) × (l.t-end ≡ length l.y.row.now) × (l.i ≡ currents_to l.t (triplets_in l.y) l.v)

abbrev pub decreases-loop-t : goal.decreases-loop-t
decreases-loop-t l = l.t-end - l.t

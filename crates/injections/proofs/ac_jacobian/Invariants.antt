-- `injections::ac_jacobian` meets its contract: the workspace is that of the triplets passed, at any angles that give the unit column. Assumes nothing.
use Prim.Native.Nat.{ℕ, ◌-◌, ◌≤◌, ◌<◌}
use mathlib.Core.Path.{◌≡◌}
use mathlib.Core.List.{List}
use lib.ListN.{length}
use lib.Ieee.{Float}
use Rattle.network.specs.Columns.{triplets_in}
use Rattle.injections.specs.Injections.{at}
use Rattle.injections.specs.Jacobian.{unit_at, places_of, jacobian_to}
use Rattle.injections.proofs.ac_jacobian.Given as goal

abbrev pub invariant-loop-t : goal.invariant-loop-t
invariant-loop-t l = (l.t ≤ l.t-end) × (l.t-end ≡ length l.y.row.now) × (length l.w ≡ length l.initial.w)
    × ((va : List Float) → ((b : ℕ) → b < l.n → at l.unit b ≡ unit_at va b) → l.w ≡ jacobian_to l.t (triplets_in l.y) va l.s (places_of l.layout) l.initial.w)

abbrev pub decreases-loop-t : goal.decreases-loop-t
decreases-loop-t l = l.t-end - l.t

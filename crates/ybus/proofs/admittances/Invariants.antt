-- `ybus::admittances` meets its contract: the places passed hold their branches' admittances. Assumes nothing.
use Prim.Native.Nat.{◌-◌}
use mathlib.Core.Path.{◌≡◌}
use lib.ListN.{length, replicate}
use Rattle.network.specs.Columns.{values_in}
use Rattle.layout.specs.Table.Laws.{Stored}
use Rattle.ybus.specs.Branch.{branch_at, admittance_of}
use Rattle.ybus.specs.Ybus.{nothing}
use Rattle.ybus.proofs.admittances.Given as goal

abbrev pub invariant-loop-e : goal.invariant-loop-e
invariant-loop-e l = (l.e-end ≡ length l.v.g.now) × Stored (λ k. admittance_of (branch_at (values_in l.v) k)) (replicate 64 nothing) (length l.v.g.now) l.e l.all

abbrev pub decreases-loop-e : goal.decreases-loop-e
decreases-loop-e l = l.e-end - l.e

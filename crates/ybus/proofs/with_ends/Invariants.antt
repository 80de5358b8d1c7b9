-- `ybus::with_ends` meets its contract: two places for each branch passed. Assumes nothing.
use Prim.Native.Nat.{◌-◌, ◌≤◌}
use mathlib.Core.Path.{◌≡◌}
use lib.ListN.{length, get_or}
use Rattle.ybus.specs.Listed.{pairs}
use Rattle.ybus.proofs.with_ends.Given as goal

abbrev pub invariant-loop-e : goal.invariant-loop-e
invariant-loop-e l = (l.e ≤ l.e-end) × (l.e-end ≡ length l.a) × (l.out ≡ pairs l.n l.e (λ k. get_or l.a k 0) (λ k. get_or l.b k 0) l.initial.out)

abbrev pub decreases-loop-e : goal.decreases-loop-e
decreases-loop-e l = l.e-end - l.e

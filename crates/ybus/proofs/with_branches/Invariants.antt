-- `ybus::with_branches` meets its contract: two places for each branch passed. Assumes nothing.
use Prim.Native.Nat.{◌-◌, ◌≤◌}
use mathlib.Core.Path.{◌≡◌}
use Rattle.ybus.specs.Ybus.{admittance_at}
use Rattle.ybus.specs.Listed.{pairs}
use Rattle.ybus.proofs.with_branches.Given as goal

abbrev pub invariant-loop-e : goal.invariant-loop-e
invariant-loop-e l = (l.e ≤ l.m) × (l.re ≡ pairs l.n l.e (λ k. (admittance_at l.y k).ft.re) (λ k. (admittance_at l.y k).tf.re) l.initial.re)
    × (l.im ≡ pairs l.n l.e (λ k. (admittance_at l.y k).ft.im) (λ k. (admittance_at l.y k).tf.im) l.initial.im)

abbrev pub decreases-loop-e : goal.decreases-loop-e
decreases-loop-e l = l.m - l.e

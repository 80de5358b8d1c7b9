-- `newton::take_step` meets its contract: the buses passed are moved. Assumes nothing.
use Prim.Native.Nat.{◌≤◌}
use mathlib.Core.Path.{◌≡◌}
use Rattle.layout.specs.Layout.{va_col, vm_col}
use Rattle.newton.specs.Step.{step_to}
use Rattle.newton.proofs.take_step.Given as goal

abbrev pub invariant-loop-b : goal.invariant-loop-b
invariant-loop-b l = (l.b ≤ l.layout.n) × (l.t ≡ step_to l.b (va_col l.layout) (vm_col l.layout) l.p l.w l.alpha)

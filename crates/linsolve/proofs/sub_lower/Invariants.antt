-- `linsolve::sub_lower` meets its contract. The invariant: what is left from here gives what all of it gives from the start. Assumes nothing.
use mathlib.Core.Path.{◌≡◌}
use Prim.Native.Nat.{◌+◌, ◌-◌}
use Rattle.linsolve.specs.Linear.{after_pivot, sub_lower}
use Rattle.linsolve.proofs.sub_lower.Given as goal

abbrev pub invariant-loop-r : goal.invariant-loop-r
invariant-loop-r l = sub_lower after_pivot (l.dim - l.r) l.r l.p l.dim l.w ≡ sub_lower after_pivot (l.dim - (l.p + 1)) (l.p + 1) l.p l.dim l.fn.w

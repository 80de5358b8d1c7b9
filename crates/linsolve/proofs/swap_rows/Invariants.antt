-- `linsolve::swap_rows` meets its contract. The invariant: what is left from here gives what all of it gives from the start. Assumes nothing.
use mathlib.Core.Path.{◌≡◌}
use Prim.Native.Nat.{◌-◌}
use Rattle.linsolve.specs.Linear.{swap_rows}
use Rattle.linsolve.proofs.swap_rows.Given as goal

abbrev pub invariant-loop-c : goal.invariant-loop-c
invariant-loop-c l = swap_rows (l.dim - l.c) l.c l.a l.b l.w ≡ swap_rows l.dim 0 l.a l.b l.fn.w

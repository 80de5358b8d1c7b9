-- `linsolve::reduce_rows` meets its contract. The invariant: what is left from here gives what all of it gives from the start. Assumes nothing.
use mathlib.Core.Path.{◌≡◌}
use Prim.Native.Nat.{◌-◌}
use Rattle.linsolve.specs.Linear.{after_pivot, reduce}
use Rattle.linsolve.proofs.reduce_rows.Given as goal

abbrev pub invariant-loop-col : goal.invariant-loop-col
invariant-loop-col l = reduce after_pivot (l.dim - l.col) l.col l.dim l.w ≡ reduce after_pivot l.dim 0 l.dim l.fn.w

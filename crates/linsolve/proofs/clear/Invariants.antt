-- `linsolve::clear` meets its contract. The invariant: what is left from here gives what all of it gives from the start. Assumes nothing.
use mathlib.Core.Path.{◌≡◌}
use Prim.Native.Nat.{◌-◌}
use Rattle.linsolve.specs.Linear.{clear_rows, cleared}
use Rattle.linsolve.proofs.clear.Given as goal

abbrev pub invariant-loop-r : goal.invariant-loop-r
invariant-loop-r l = clear_rows (l.dim - l.r) l.r l.dim l.w ≡ cleared l.dim l.fn.w

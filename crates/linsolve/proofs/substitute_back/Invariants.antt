-- `linsolve::substitute_back` meets its contract. The invariant: what is left from here gives what all of it gives from the start. Assumes nothing.
use mathlib.Core.Path.{◌≡◌}
use Rattle.linsolve.specs.Linear.{substitute}
use Rattle.linsolve.proofs.substitute_back.Given as goal

abbrev pub invariant-loop-r : goal.invariant-loop-r
invariant-loop-r l = substitute l.r l.dim l.w ≡ substitute l.dim l.dim l.fn.w

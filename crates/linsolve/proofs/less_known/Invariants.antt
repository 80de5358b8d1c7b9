-- `linsolve::less_known` meets its contract. The invariant: what is left from here gives what all of it gives from the start. Assumes nothing.
use mathlib.Core.Path.{◌≡◌}
use Prim.Native.Nat.{◌+◌, ◌-◌}
use Rattle.linsolve.specs.Linear.{less_known, at}
use Rattle.linsolve.proofs.less_known.Given as goal

abbrev pub invariant-loop-c : goal.invariant-loop-c
invariant-loop-c l = less_known (l.dim - l.c) l.c l.r l.acc l.w ≡ less_known (l.dim - (l.r + 1)) (l.r + 1) l.r (at l.w (4096 + l.r)) l.w

-- `linsolve::sub_row` meets its contract. The invariant: what is left from here gives what all of it gives from the start. Assumes nothing.
use mathlib.Core.Path.{◌≡◌}
use Prim.Native.Nat.{◌+◌, ◌-◌}
use Rattle.linsolve.specs.Linear.{sub_row}
use Rattle.linsolve.proofs.sub_row.Given as goal

abbrev pub invariant-loop-c : goal.invariant-loop-c
invariant-loop-c l = sub_row (l.dim - l.c) l.c l.p l.r l.f l.w ≡ sub_row (l.dim - (l.p + 1)) (l.p + 1) l.p l.r l.f l.fn.w

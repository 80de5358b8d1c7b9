-- `linsolve::pivot_row` meets its contract. The invariant: what is left from here gives what all of it gives from the start. Assumes nothing.
use mathlib.Core.Path.{◌≡◌}
use Prim.Native.Nat.{◌-◌, ◌<◌}
use Rattle.std.specs.Option.{unwrap_or, IfSome}
use Rattle.real.specs.Literals.{nought}
use Rattle.linsolve.specs.Linear.{pivot_from}
use Rattle.linsolve.proofs.pivot_row.Given as goal

abbrev pub invariant-loop-r : goal.invariant-loop-r
invariant-loop-r l =
    (pivot_from (l.dim - l.r) l.r l.col l.best (unwrap_or l.p l.dim) l.w ≡ pivot_from (l.dim - l.col) l.col l.col nought l.dim l.w)
    × IfSome l.p (λ p. p < l.dim)

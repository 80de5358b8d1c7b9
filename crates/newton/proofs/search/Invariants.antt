-- `newton::search` meets its contract: what is left gives what all twelve give. Assumes nothing.
use Prim.Native.Nat.{◌-◌, ◌≤◌}
use mathlib.Core.Path.{◌≡◌}
use Rattle.real.specs.Literals.{one}
use Rattle.newton.specs.Newton.{problem_in, measured_of, tries_from}
use Rattle.newton.proofs.search.Given as goal

abbrev pub invariant-loop : goal.invariant-loop
invariant-loop l = (l.counter ≤ 12)
    × (tries_from (12 - l.counter) (measured_of (problem_in l.g)) l.g.layout l.p l.m l.w l.alpha
    ≡ tries_from 12 (measured_of (problem_in l.g)) l.g.layout l.p l.m l.w one)

-- `newton::newton` meets its contract: what is left from here gives what all fifty steps give. Assumes nothing.
use Prim.Native.Nat.{◌-◌, ◌≤◌}
use mathlib.Core.Path.{◌≡◌}
use lib.ListN.{length}
use Rattle.network.specs.Columns.{triplets_in}
use Rattle.newton.specs.Newton.{problem_in, measured_of, steps_from, newton_of}
use Rattle.newton.proofs.newton.Given as goal

abbrev pub invariant-loop-it : goal.invariant-loop-it
invariant-loop-it l = (l.it ≤ 50) × (length l.w ≡ length l.initial.w)
    × (steps_from (50 - l.it) l.it (measured_of (problem_in l.g)) (triplets_in l.g.y) l.g.layout l.p l.m l.w ≡ newton_of (problem_in l.g) l.initial.p l.initial.w)

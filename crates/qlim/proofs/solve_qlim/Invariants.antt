-- `qlim::solve_qlim` meets its contract: the rounds that are left give what all twelve give. Assumes nothing.
use Prim.Native.Nat.{◌-◌, ◌≤◌}
use mathlib.Core.Path.{◌≡◌}
use lib.ListN.{length}
use Rattle.qlim.specs.Rounds.{study_in, rounds_from}
use Rattle.qlim.proofs.solve_qlim.Given as goal

abbrev pub invariant-loop : goal.invariant-loop
invariant-loop l = (l.counter ≤ 11) × (length l.w ≡ length l.initial.w)
    × (rounds_from (11 - l.counter) (study_in l.s) l.kinds l.t l.p l.w ≡ rounds_from 11 (study_in l.s) l.initial.kinds l.initial.t l.initial.p l.initial.w)

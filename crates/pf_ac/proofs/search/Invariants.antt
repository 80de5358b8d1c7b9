-- `pf_ac::search` meets its contract: what is left from here gives what all starts give. Assumes nothing.
use Prim.Native.Nat.{◌-◌, ◌≤◌}
use mathlib.Core.Path.{◌≡◌}
use lib.ListN.{length}
use Rattle.qlim.specs.Rounds.{study_in}
use Rattle.pf_ac.specs.Search.{search_of}
use Rattle.pf_ac.proofs.Turns.{turns_from}
use Rattle.pf_ac.proofs.search.Given as goal

abbrev pub invariant-loop-i : goal.invariant-loop-i
invariant-loop-i l = (1 ≤ l.i) × (length l.w ≡ length l.initial.w)
    × (turns_from l.start (study_in l.s) l.kinds l.first l.flat (l.count - l.i) l.i l.best l.w ≡ search_of l.start (study_in l.s) l.kinds l.first l.flat l.fn.w)

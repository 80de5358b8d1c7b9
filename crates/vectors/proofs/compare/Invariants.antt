-- `vectors::compare` is safe and ends: each turn counts one record at most. Assumes nothing.
use Rattle.std.proofs.Common.{◌≤◌}
use denote.Param.Always.{always_mut}
use Rattle.vectors.proofs.compare.Given as goal

abbrev pub invariant-loop-turn : goal.invariant-loop-turn
invariant-loop-turn g l = (always_mut g.F.FnMut l.initial.next → always_mut g.F.FnMut l.next) × (l.done ≤ l._turn) × (l.differing ≤ l.done)

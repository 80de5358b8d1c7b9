-- `replay::main` is safe and ends: each turn counts one text at most. Assumes nothing.
use Rattle.std.proofs.Common.{◌≡◌, ◌≤◌, length}
use Rattle.replay.proofs.main.Given as goal

abbrev pub invariant-loop-number : goal.invariant-loop-number
invariant-loop-number l = (length l.head ≡ 4) × (length l.text ≡ 65536) × (length l.answer ≡ 65536) × (l.done ≤ l.number) × (l.differing ≤ l.number)

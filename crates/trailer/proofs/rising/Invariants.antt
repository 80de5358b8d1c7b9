-- `trailer::rising` meets its contract: the groups left, from the last number on, give what all of them give. Assumes nothing.
use Rattle.std.proofs.Common.{◌≡◌, ◌+◌, ◌*◌, ◌-◌}
use Rattle.trailer.specs.Trailer.{rising_of}
use Rattle.trailer.proofs.rising.Given as goal

abbrev pub invariant-loop-k : goal.invariant-loop-k
invariant-loop-k l = rising_of (l.n - l.k) l.s (l.at + 6 * l.k) l.low l.end ≡ rising_of l.n l.s l.at 0 l.end

-- `fields::whole` meets its contract: the digits left, after the number so far, give what all of them give, and the number stays below the limit. Assumes nothing.
use Rattle.std.proofs.Common.{◌≡◌, ◌^◌, ◌<◌, length}
use Rattle.std.proofs.Math.Seq.{slice}
use Rattle.fields.specs.Digits.{limited_of}
use Rattle.fields.proofs.whole.Given as goal

abbrev pub invariant-loop-b : goal.invariant-loop-b
invariant-loop-b l = (l.m < 10 ^ 15) × (limited_of l.m (slice l.b-index (length l.f) l.f) ≡ limited_of l.from l.f)

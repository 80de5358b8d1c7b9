-- 01's example of mix, computed, and the slip of the cast. Assumes nothing.
use Rattle.std.proofs.Common.{◌≡◌, ◌+◌, ◌-◌, ◌^◌, false, pos, negsuc, refl}
use lib.Ieee.{fin, binary64, of_int, sub, mul, div}
use Rattle.real.specs.Literals.{double}
use Rattle.mix.specs.Noise.{mix_of}

-- mix(0, 0) is -1
pub mix-of-nothing : mix_of 0 0 ≡ of_int binary64 (negsuc 0)
unfolding mix_of of_int div mul sub
mix-of-nothing = refl

-- 2^64 - 1 becomes 2^64
pub largest-rounds-up : double (2 ^ 64 - 1) ≡ fin false 1 (pos 64)
unfolding of_int
largest-rounds-up = refl

-- half way between two doubles, the even one: 2^53 + 1 becomes 2^53
pub tie-to-even : double (2 ^ 53 + 1) ≡ fin false 1 (pos 53)
unfolding of_int
tie-to-even = refl

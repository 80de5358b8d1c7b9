-- 01's examples, computed: sine 0 is 0, cosine 0 is 1; sine 1025 is NaN. Assumes nothing.
use Rattle.std.proofs.Common.{◌≡◌, refl}
use lib.Ieee.{nan, add, sub, mul, div, neg, lt, is_nan, of_int, of_bits}
use Rattle.real.specs.Literals.{double}
use Rattle.real.specs.Real.{absolute}
use Rattle.trig.specs.Sine.{sin_cos_of}

pub sine-of-0 : (sin_cos_of (double 0)).sin ≡ double 0
unfolding sin_cos_of absolute add sub mul div neg lt is_nan of_int of_bits
sine-of-0 = refl

pub cosine-of-0 : (sin_cos_of (double 0)).cos ≡ double 1
unfolding sin_cos_of absolute add sub mul div neg lt is_nan of_int of_bits
cosine-of-0 = refl

pub sine-of-1025 : (sin_cos_of (double 1025)).sin ≡ nan
unfolding sin_cos_of absolute lt is_nan of_int
sine-of-1025 = refl

-- 01's examples of the norm, computed: of nothing 0, of (-2, 1) 2, of (3, NaN) NaN. Assumes nothing.
use mathlib.Core.Path.{◌≡◌, refl}
use mathlib.Core.List.{[], ◌∷◌}
use lib.IntN.{negsuc}
use lib.Ieee.{nan, binary64, of_int, of_bits, lt, is_nan}
use Rattle.real.specs.Literals.{double}
use Rattle.real.specs.Norm.{norm_of}

pub norm-of-nothing : norm_of 0 [] ≡ double 0
unfolding norm_of of_int of_bits
norm-of-nothing = refl

pub norm-of-two : norm_of 2 (of_int binary64 (negsuc 1) ∷ double 1 ∷ []) ≡ double 2
unfolding norm_of of_int of_bits lt is_nan
norm-of-two = refl

pub norm-of-nan : norm_of 2 (double 3 ∷ nan ∷ []) ≡ nan
unfolding norm_of of_int of_bits lt is_nan
norm-of-nan = refl

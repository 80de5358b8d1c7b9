-- Each literal is the double nearest to the decimal that 01 writes. Assumes nothing.
use mathlib.Core.Path.{◌≡◌, refl}
use mathlib.Core.Bool.{false}
use Prim.Native.Nat.{◌^◌}
use lib.Ieee.{binary64, round, of_bits}
use Rattle.real.specs.Literals.{nought, one, half, tolerance, margin, tenth, three_hundredths}

pub nought-is : nought ≡ round binary64 false 0 1
unfolding round of_bits
nought-is = refl

pub one-is : one ≡ round binary64 false 1 1
unfolding round of_bits
one-is = refl

pub half_is : half ≡ round binary64 false 1 2
unfolding round of_bits
half_is = refl

pub tolerance-is : tolerance ≡ round binary64 false 1 (10 ^ 8)
unfolding round of_bits
tolerance-is = refl

pub margin-is : margin ≡ round binary64 false 1 (10 ^ 6)
unfolding round of_bits
margin-is = refl

pub tenth-is : tenth ≡ round binary64 false 1 10
unfolding round of_bits
tenth-is = refl

pub three-hundredths-is : three_hundredths ≡ round binary64 false 3 100
unfolding round of_bits
three-hundredths-is = refl

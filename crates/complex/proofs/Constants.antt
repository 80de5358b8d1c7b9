-- The program's constants are 0 and i. Assumes nothing.
use Rattle.std.proofs.Common.{◌≡◌, refl}
use Rattle.complex.specs.declared.TheConstants.Complex as Constant
use Rattle.complex.specs.Numbers.{zero, i}

pub zero-is : Constant.ZERO ≡ zero
zero-is = refl

pub i-is : Constant.I ≡ i
i-is = refl

-- 02, Ask 6: "the power is worked out by multiplying by ten, exact up to 22". Powers/Laws.antt shows that each product up to the 22nd is exact.
pub mod Laws
use Rattle.std.specs.Prelude.{ℕ, zero, suc, Float}
use Rattle.std.specs.Float.{binary64}
use Rattle.std.specs.Float.Ieee.{mul}
use Rattle.real.specs.Literals.{double}

-- 1.0 multiplied by ten, once for each of k decimals
unfoldable pub product : ℕ → Float
product zero = double 1
product (suc k) = mul binary64 (product k) (double 10)

-- `fields::scaled` meets its contract: a whole number below 10^15 is a double. Assumes nothing.
use mathlib.Core.Path.{ap}
use Prim.Native.Nat.{◌^◌}
use native.Mathlib.Omega.{arith}
use lib.Dec.{le→leb}
use lib.Ieee.{in_float, binary64, div}
use Rattle.real.specs.Literals.{double}
use Rattle.fields.proofs.scaled.Goals as goal

pub int_to_float-result : goal.int_to_float-result
unfolding in_float
int_to_float-result c = le→leb c.args.m (2 ^ 53) (omega arith)

pub returns : goal.returns
returns c = ap (div binary64 (double c.args.m)) c.ten.ensures

-- `fields::real_or_nan` meets its contract: 0.0 / 0.0 is NaN. Assumes nothing.
use lib.Ieee.{div, of_bits}
use Rattle.fields.proofs.real_or_nan.Goals as goal

pub returns-then-is_byte : goal.returns-then-is_byte
unfolding div of_bits
returns-then-is_byte c = rw (← c.is_byte.ensures, c.if-is_byte.true)

pub returns : goal.returns
returns c = rw (← c.is_byte.ensures, c.if-is_byte.false) c.read_real.ensures

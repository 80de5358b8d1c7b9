-- `mix::wrapping_mul` meets its contract: the law of proofs/Halves.antt at its two sums. Assumes nothing.
use Rattle.std.proofs.Common.{refl, arith}
use Rattle.mix.proofs.Halves.{fits, product}
use Rattle.mix.proofs.wrapping_mul.Goals as goal

pub returns : goal.returns
returns c = product c.args.a c.args.b _ _ refl refl

pub overflow_mul-cross : goal.overflow_mul-cross
overflow_mul-cross c = record { fits = fits _ _ (omega arith) (omega arith) }

pub overflow_mul-cross-2 : goal.overflow_mul-cross-2
overflow_mul-cross-2 c = record { fits = fits _ _ (omega arith) (omega arith) }

pub overflow_mul-result : goal.overflow_mul-result
overflow_mul-result c = record { fits = fits _ _ (omega arith) (omega arith) }

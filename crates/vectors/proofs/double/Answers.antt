-- `vectors::double` meets its contract: above the pattern of infinity, the sign aside, a pattern is a NaN's. Assumes nothing.
use mathlib.Core.Path.{sym, ◌∙◌, subst}
use mathlib.Core.Bool.{Bool, not}
use borrow.Author.Tests.{lt-ltb, le-ltb}
use lib.Dec.{T}
use lib.Ieee.{binary64, div, of_bits}
use lib.Ieee.Bits.{nan_bits_is, nan_bits_above}
use Rattle.real.specs.Real.Laws.{nan_is}
use Rattle.vectors.proofs.double.Goals as goal

pub returns-then-w-gt9218868437227405312 : goal.returns-then-w-gt9218868437227405312
unfolding div of_bits
returns-then-w-gt9218868437227405312 c =
    let w = c.args.w in
    sym (nan_is (of_bits binary64 w) (sym (nan_bits_is binary64 w) ∙ nan_bits_above binary64 w ∙ lt-ltb _ _ c.if-w-gt9218868437227405312.true))

pub float_from_bits-result : goal.float_from_bits-result
float_from_bits-result c =
    subst (λ (b : Bool). T (not b)) (sym (nan_bits_above binary64 c.args.w ∙ le-ltb _ _ c.if-w-gt9218868437227405312.false)) tt

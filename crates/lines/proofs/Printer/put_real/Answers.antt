-- `lines::Printer::put_real` meets its contract: the bits of a number that is no NaN have 16 hexadecimal digits, leading zeros counted. Assumes nothing.
use Rattle.std.proofs.Common.{ℕ, ◌^◌, ◌<◌, ◌≡◌, sym, ap, ◌∙◌, true, T, subst, arith, Float}
use Rattle.std.specs.Float.{binary64}
use Rattle.std.specs.Float.Ieee.{fits, to_bits}
use lib.Ieee.Bits.{to_bits-lt}
use Rattle.io.specs.Digits.{last_digits, IsDigitCount}
use Rattle.lines.specs.Lines.Laws.{fewest-fits, real-nan, real-is}
use Rattle.lines.specs.Printer.Laws.{at_most}
use Rattle.lines.proofs.Printer.put_real.Goals as goal

sixteen : (x : Float) (k : ℕ) → fits binary64 x ≡ true → IsDigitCount 16 16 (to_bits binary64 x) k → k ≡ 16
sixteen x k f h =
    let b : to_bits binary64 x < 16 ^ 16 = to_bits-lt binary64 x (subst T (sym f) tt) in
    omega (arith, h.0, fewest-fits 16 16 16 _ k (omega arith) (omega arith) b h)

pub returns-then-is_nan : goal.returns-then-is_nan
returns-then-is_nan c = at_most (real-nan _ (sym c.is_nan.ensures ∙ c.if-is_nan.true)) (omega arith) c.put.ensures

pub returns-else-is_nan : goal.returns-else-is_nan
returns-else-is_nan c =
    let x = c.args.x in
    let e = sixteen x _ c.well_formed.1.0.1 c.hex-k.ensures.len in
    at_most
    (c.hex-k.ensures.digits ∙ ap (λ (k : ℕ). last_digits 16 k (to_bits binary64 x)) e ∙ real-is x (sym c.is_nan.ensures ∙ c.if-is_nan.false))
    (omega (arith, c.hex-k.ensures.in_bounds, e))
    c.put-else-is_nan.ensures

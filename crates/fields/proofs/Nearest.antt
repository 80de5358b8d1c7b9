-- A real's value is the decimal that it writes, rounded once: the double nearest to it, ties to even. Assumes nothing.
use Rattle.std.specs.Prelude.{◌≡◌, cond, List, ℕ, ◌^◌, ◌≤◌, ◌<◌, Float, length, Some}
use Rattle.std.proofs.Common.{ap, ◌∙◌, arith, lit<}
use Rattle.std.proofs.Math.Nat.{one-le-pow}
use Rattle.std.specs.Float.{binary64}
use Rattle.std.specs.Float.Ieee.{neg, round}
use Rattle.real.specs.Nearest.{NearestDouble}
use Rattle.real.specs.Nearest.Laws.{round-nearest-small}
use Rattle.fields.specs.Real.{real_of}
use Rattle.fields.specs.Decimal.{has_minus, wholes, decimals, numerator, denominator}
use Rattle.fields.specs.Decimal.Laws.{real-written, written-rounded, written_small, signed_round}

-- the value of a real is its decimal, rounded once
pub real-rounded : (l : List ℕ) (x : Float) → real_of l ≡ Some x → x ≡ round binary64 (has_minus l) (numerator l) (denominator l)
real-rounded l x h =
    let v = real-written l x h in
    v.2 ∙ ap (λ (y : Float). cond (has_minus l) (neg y) y) (written-rounded (wholes l) (decimals l) v.0 v.1) ∙ signed_round (has_minus l) (numerator l) (denominator l)

-- and so it is the double nearest to the decimal that is written, ties to even
pub real-nearest : (l : List ℕ) (x : Float) → real_of l ≡ Some x → NearestDouble x (has_minus l) (numerator l) (denominator l)
real-nearest l x h =
    let v = real-written l x h in
    let b : 1 ≤ denominator l = one-le-pow (length (decimals l)) 10 (lit< tt) in
    let a : numerator l < 10 ^ 15 = written_small (wholes l) (decimals l) v.0 v.1 in
    rw (real-rounded l x h) (round-nearest-small (has_minus l) (numerator l) (denominator l) b (omega arith))

-- `vectors::same` meets its contract: a double that is no NaN is given back by its bits. Assumes nothing.
use mathlib.Core.Path.{◌≡◌, sym, ap, ◌∙◌, subst}
use mathlib.Core.Bool.{true}
use borrow.Author.Tests.{eq-eqb, eqb-true}
use lib.Dec.{T}
use lib.Ieee.{Float, binary64, to_bits, of_bits, fits}
use lib.Ieee.Bits.{of_bits-to_bits}
use Rattle.real.specs.Real.Laws.{nan_is}
use Rattle.vectors.proofs.same.Goals as goal

back : (x y : Float) → fits binary64 x ≡ true → fits binary64 y ≡ true → to_bits binary64 x ≡ to_bits binary64 y → x ≡ y
back x y fx fy e =
    sym (of_bits-to_bits binary64 x (subst T (sym fx) tt)) ∙ ap (of_bits binary64) e ∙ of_bits-to_bits binary64 y (subst T (sym fy) tt)

pub returns-then-is_nan : goal.returns-then-is_nan
returns-then-is_nan c =
    let a = c.args in
    let other = c.is_nan-then-is_nan.ensures in
    let x_nan = sym c.if-is_nan.ensures in
    (λ h. nan_is a.x x_nan ∙ sym (nan_is a.y (sym other ∙ h)), λ e. other ∙ rw e at x_nan)

pub returns : goal.returns
returns c =
    (λ h. back c.args.x c.args.y c.well_formed.0.1 c.well_formed.1.0.1 (eqb-true _ _ h), λ e. eq-eqb (to_bits binary64 c.args.x) (to_bits binary64 c.args.y) (ap (to_bits binary64) e))

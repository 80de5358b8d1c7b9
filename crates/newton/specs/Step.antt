-- 01, "Newton": a trial, and what uses up its try.
pub mod Laws
pub mod FourTables
use Rattle.std.specs.Prelude.{ℕ, ◌+◌, Bool, ◌||◌, cond, List, ltb, get_or, Float}
use Rattle.std.specs.Float.{nan, binary64}
use Rattle.std.specs.Float.Ieee.{add, mul, le, is_nan}
use Rattle.real.specs.Any.{any_below}
use Rattle.real.specs.Literals.{nought}
use Rattle.layout.specs.declared.AcPfLayout.{AcPfLayout}
use Rattle.layout.specs.Layout.{none, va_col, vm_col}
use Rattle.layout.specs.Table.{stores}
use Rattle.layout.specs.declared.Point.{Point}

-- x + alpha * dx over the columns that a bus has; dx stands in the right sides' places
unfoldable pub moved_by : Float → ℕ → Float → List Float → Float
moved_by x c alpha w = cond (ltb c none) (add binary64 x (mul binary64 alpha (get_or w (4096 + c) nan))) x

-- the first k buses moved: va and vm say which their columns are
abbrev pub step_to : ℕ → (ℕ → ℕ) → (ℕ → ℕ) → Point → List Float → Float → Point
step_to k va vm p w alpha =
    record {
      vm = stores (λ b. moved_by (get_or p.vm b nan) (vm b) alpha w) k p.vm;
      va = stores (λ b. moved_by (get_or p.va b nan) (va b) alpha w) k p.va;
    }

unfoldable pub step_of : AcPfLayout → Point → List Float → Float → Point
step_of l p w alpha = step_to l.n (va_col l) (vm_col l) p w alpha

-- a magnitude NaN or <= 0, or an angle NaN
unfoldable pub unfit_at : Float → Float → Bool
unfit_at m a = is_nan m || (le m nought || is_nan a)

-- "any", slack buses included
abbrev pub unfit_to : ℕ → Point → Bool
unfit_to n p = any_below n (λ b. unfit_at (get_or p.vm b nan) (get_or p.va b nan))

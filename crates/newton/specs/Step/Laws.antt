-- The trial point as a loop over the buses makes it. Assumes nothing.
use Rattle.std.specs.Prelude.{ℕ, ◌+◌, ◌≡◌, List, get_or, set, Float}
use Rattle.std.proofs.Math.Path.{refl}
use Rattle.std.proofs.Common.{add-one}
use Rattle.std.specs.Float.{nan}
use Rattle.layout.specs.declared.AcPfLayout.{AcPfLayout}
use Rattle.layout.specs.Layout.{va_col, vm_col}
use Rattle.layout.specs.Table.{stores}
use Rattle.layout.specs.declared.Point.{Point}
use Rattle.newton.specs.Step.{moved_by, step_to, step_of}

module _ (l : AcPfLayout) (p : Point) (w : List Float) (alpha : Float) where
  pub step-begin : p ≡ step_to 0 (va_col l) (vm_col l) p w alpha
  unfolding stores
  step-begin = refl

  pub step-turn : (b : ℕ) (t : Point) (m a : Float) → t ≡ step_to b (va_col l) (vm_col l) p w alpha → a ≡ moved_by (get_or p.va b nan) (va_col l b) alpha w
      → m ≡ moved_by (get_or p.vm b nan) (vm_col l b) alpha w → record { vm = set t.vm b m; va = set t.va b a } ≡ step_to (b + 1) (va_col l) (vm_col l) p w alpha
  unfolding stores
  step-turn b t m a et ea em = rw (add-one, et, ea, em)

  pub step_end : step_to l.n (va_col l) (vm_col l) p w alpha ≡ step_of l p w alpha
  unfolding step_of
  step_end = refl

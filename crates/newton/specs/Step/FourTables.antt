-- The trial point as it was read off a layout of four tables, before request 4 of 02: kept to say that the layout of two gives it its bits
-- (`same_step`). Assumes nothing.
use Rattle.std.specs.Prelude.{◌≡◌, List, Float}
use Rattle.layout.specs.declared.AcPfLayout.{AcPfLayout}
use Rattle.layout.specs.declared.Point.{Point}
use Rattle.layout.specs.FourTables.{FourTables, va_col, vm_col}
use Rattle.layout.specs.FourTables.Laws.{SameAnswers}
use Rattle.newton.specs.Step as Two
use Rattle.newton.specs.Step.{step_to}

abbrev pub step_of : FourTables → Point → List Float → Float → Point
step_of l p w alpha = step_to l.n (va_col l) (vm_col l) p w alpha

pub same_step : (l : AcPfLayout) (o : FourTables) → SameAnswers l o → (p : Point) (w : List Float) (alpha : Float) → Two.step_of l p w alpha ≡ step_of o p w alpha
unfolding Two.step_of
same_step l o same p w alpha = λ i. step_to (same.buses i) (λ b. same.va_col b i) (λ b. same.vm_col b i) p w alpha

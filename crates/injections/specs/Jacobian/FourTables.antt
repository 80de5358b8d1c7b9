-- The Jacobian as it was read off a layout of four tables, before request 4 of 02: kept to say that the layout of two gives every entry its bits
-- (`same-jacobian`). Assumes nothing.
use Rattle.std.specs.Prelude.{◌≡◌, List, length, Float}
use Rattle.layout.specs.declared.AcPfLayout.{AcPfLayout}
use Rattle.layout.specs.FourTables.{FourTables, va_col, vm_col, p_row, q_row}
use Rattle.layout.specs.FourTables.Laws.{SameAnswers}
use Rattle.network.specs.Network.{Triplets}
use Rattle.injections.specs.declared.Phasors.{Phasors}
use Rattle.injections.specs.Jacobian as Two
use Rattle.injections.specs.Jacobian.{jacobian_to}

abbrev pub jacobian_of : Triplets → List Float → Phasors → FourTables → List Float → List Float
jacobian_of y va s l w = jacobian_to (length y.row) y va s (record { p_row = p_row l; q_row = q_row l; va_col = va_col l; vm_col = vm_col l }) w

pub same-jacobian : (l : AcPfLayout) (o : FourTables) → SameAnswers l o → (y : Triplets) (va : List Float) (s : Phasors) (w : List Float)
    → Two.jacobian_of y va s l w ≡ jacobian_of y va s o w
same-jacobian l o same y va s w = λ i.
    jacobian_to (length y.row) y va s
    (record { p_row = λ b. same.p_row b i; q_row = λ b. same.q_row b i; va_col = λ b. same.va_col b i; vm_col = λ b. same.vm_col b i })
    w

-- `ybus::branch_fault` meets its contract: the row that is told has a tap. Assumes nothing.
use Rattle.std.proofs.Common.{sym, ◌∙◌, arith}
use Rattle.real.specs.First.Laws.{at-lowest}
use Rattle.ybus.specs.Fault.{fault_at}
use Rattle.ybus.proofs.branch_fault.Goals as goal

pub returns-in_err-row : goal.returns-in_err-row
unfolding fault_at
returns-in_err-row c = rw (← c.first_fault.ensures, c.in_err-row.was) c.from_residual.ensures

pub returns : goal.returns
unfolding fault_at
returns c = rw (← c.first_fault.ensures, c.in_ok-row.was, c.row_fault.ensures)

-- the row that was found is one of the table's
pub bounds-tap-row : goal.bounds-tap-row
bounds-tap-row c = omega (arith, (at-lowest _ _ _ (sym c.first_fault.ensures ∙ c.in_ok-row.was)).inside)

pub offset_bounds-tap-row : goal.offset_bounds-tap-row
offset_bounds-tap-row c = omega (arith, (at-lowest _ _ _ (sym c.first_fault.ensures ∙ c.in_ok-row.was)).inside)

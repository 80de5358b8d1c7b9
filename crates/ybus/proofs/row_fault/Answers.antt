-- `ybus::row_fault` meets its contract, by its test. Assumes nothing.

use Rattle.ybus.proofs.row_fault.Goals as goal

pub returns-then-tap : goal.returns-then-tap
returns-then-tap c = rw c.if-tap.true

pub returns : goal.returns
returns c = rw c.if-tap.false

-- `injections::enter_row` meets its contract, by the two entries. Assumes nothing.
use Rattle.injections.proofs.enter_row.Goals as goal

pub returns : goal.returns
returns c = rw (← c.enter.ensures) c.enter-2.ensures

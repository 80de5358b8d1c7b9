-- `injections::enter_all` meets its contract, by the two rows. Assumes nothing.
use Rattle.injections.specs.Jacobian.Laws.{entered_all_lem}
use Rattle.injections.proofs.enter_all.Goals as goal

pub returns : goal.returns
returns c = rw (entered_all_lem, ← c.enter_row.ensures) c.enter_row-2.ensures

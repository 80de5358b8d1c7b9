-- `injections::ac_injections` meets its contract, by those of its two calls. Assumes nothing.
use Rattle.injections.proofs.ac_injections.Goals as goal

pub returns : goal.returns
returns c = rw (c.bus_powers-power.ensures, c.bus_phasors-phasors.ensures)

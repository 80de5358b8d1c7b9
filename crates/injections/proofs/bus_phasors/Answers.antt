-- `injections::bus_phasors` meets its contract, by those of its two calls. Assumes nothing.
use Rattle.injections.specs.Injections.{phasors_of}
use Rattle.injections.proofs.bus_phasors.Goals as goal

pub returns : goal.returns
unfolding phasors_of
returns c = rw (c.currents-i.ensures, c.voltages-v.ensures)

-- `starts::flat_start` meets its contract: the buses' places are copied. Assumes nothing.
use Rattle.std.specs.Float.{nan}
use Rattle.starts.specs.Starts.{flat_of}
use Rattle.starts.proofs.flat_start.Goals as goal

pub returns : goal.returns
unfolding flat_of
returns c = rw (c.column-vm.ensures nan, c.column-va.ensures nan)

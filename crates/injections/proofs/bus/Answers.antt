-- `injections::bus` meets its contract: every number of the column is below n. Assumes nothing.
use mathlib.Core.Path.{refl}
use native.Mathlib.Omega.{arith}
use Rattle.injections.proofs.bus.Goals as goal

pub returns : goal.returns
returns c = let h = c.requires.2 c.args.t c.requires.0 in (refl, h, omega arith)

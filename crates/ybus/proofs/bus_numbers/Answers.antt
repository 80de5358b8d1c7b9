-- `ybus::bus_numbers` meets its contract: the places passed hold their own numbers. Assumes nothing.
use native.Mathlib.Omega.{arith}
use mathlib.Core.Path.{refl}
use Rattle.layout.specs.Table.Laws.{stored-none, stored_next, stored-all}
use Rattle.ybus.proofs.bus_numbers.Goals as goal

pub loop-b-init : goal.loop-b-init
loop-b-init c = stored-none

pub loop-b-preserved : goal.loop-b-preserved
loop-b-preserved c = stored_next c.loop-b.invariant (omega arith) refl

pub returns : goal.returns
returns c = stored-all c.loop-b.invariant (omega arith)

-- `injections::voltages` meets its contract: the places passed hold their polar numbers. Assumes nothing.
use native.Mathlib.Omega.{arith}
use Rattle.layout.specs.Table.Laws.{stored-none, stored_next, stored-all}
use Rattle.injections.specs.Injections.{voltages_of}
use Rattle.injections.proofs.voltages.Goals as goal

pub loop-b-preserved : goal.loop-b-preserved
loop-b-preserved c = stored_next c.loop-b.invariant (omega arith) c.polar.ensures

pub loop-b-init : goal.loop-b-init
unfolding voltages_of
loop-b-init c = stored-none

pub returns : goal.returns
unfolding voltages_of
returns c = stored-all c.loop-b.invariant (omega arith)

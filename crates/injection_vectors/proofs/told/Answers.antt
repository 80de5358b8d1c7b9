-- `injection_vectors::told` meets its contract: the places passed hold what is told. Assumes nothing.
use Rattle.std.proofs.Common.{arith}
use Rattle.layout.specs.Table.Laws.{stored-none, stored_next, stored-all}
use Rattle.injection_vectors.proofs.told.Goals as goal

pub loop-k-init : goal.loop-k-init
loop-k-init g c = stored-none

pub loop-k-preserved : goal.loop-k-preserved
loop-k-preserved g c = stored_next c.loop-k.invariant (omega arith) c.at.ensures

pub returns : goal.returns
returns g c = stored-all c.loop-k.invariant (omega arith)

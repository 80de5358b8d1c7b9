-- `layout::column` meets its contract: the first places are copied. Assumes nothing.
use Rattle.std.proofs.Common.{arith, replicate}
use Rattle.layout.specs.Table.Laws.{stored-taken}
use Rattle.layout.proofs.column.Goals as goal

pub returns : goal.returns
returns g c = λ d. rw c.copy_from_slice.ensures.after (stored-taken c.args.n c.args.l.now (replicate 32 c.args.z) d (omega arith) (omega arith))

-- `injection_vectors::told` meets its contract: the places passed hold what is told. Assumes nothing.
use Rattle.std.proofs.Common.{replicate}
use Rattle.layout.specs.Table.Laws.{Stored}
use Rattle.injection_vectors.proofs.told.Given as goal

abbrev pub invariant-loop-k : goal.invariant-loop-k
invariant-loop-k g l = Stored (g.T.Value.told l.s l.from l.n) (replicate g.row.N l.fn.rest) l.n l.k l.out

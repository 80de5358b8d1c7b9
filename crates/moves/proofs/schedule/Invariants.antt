-- `moves::schedule` meets its contract: the buses passed have their figure. Assumes nothing.
use lib.ListN.{get_or, replicate}
use lib.Ieee.{nan}
use Rattle.real.specs.Literals.{nought}
use Rattle.layout.specs.Layout.{kind_of}
use Rattle.layout.specs.Table.Laws.{Stored}
use Rattle.moves.specs.Moves.{sched_at}
use Rattle.moves.proofs.schedule.Given as goal

abbrev pub invariant-loop-b : goal.invariant-loop-b
invariant-loop-b l = Stored (λ i. sched_at (kind_of l.kinds i) (get_or l.qsched i nan)) (replicate 32 nought) l.n l.b l.t

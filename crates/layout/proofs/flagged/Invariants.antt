-- `layout::flagged` meets its contract: the places passed hold the flags' kinds. Assumes nothing.
use lib.ListN.{get_or, replicate}
use Rattle.layout.specs.declared.BusKind.TheVariants.{Pq}
use Rattle.layout.specs.Table.Laws.{Stored}
use Rattle.layout.specs.Kinds.{flag_kind}
use Rattle.layout.proofs.flagged.Given as goal

abbrev pub invariant-loop-b : goal.invariant-loop-b
invariant-loop-b l = Stored (λ i. flag_kind (get_or l.kind i 0)) (replicate 32 Pq) l.n l.b l.kinds

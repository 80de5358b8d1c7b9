-- `starts::perturbed` meets its contract: the places passed are set. Assumes nothing.
use lib.ListN.{get_or, replicate}
use lib.Ieee.{nan}
use Rattle.real.specs.Literals.{nought}
use Rattle.layout.specs.Layout.{kind_of}
use Rattle.layout.specs.Table.Laws.{Stored}
use Rattle.starts.specs.Starts.{nudged, scaled}
use Rattle.starts.proofs.perturbed.Given as goal

abbrev pub invariant-loop-b : goal.invariant-loop-b
invariant-loop-b l = Stored (λ i. scaled (kind_of l.kinds i) (get_or l.flat.vm i nan) i l.r) (replicate 32 nought) l.n l.b l.vm
    × Stored (λ i. nudged (kind_of l.kinds i) (get_or l.flat.va i nan) i l.r) (replicate 32 nought) l.n l.b l.va

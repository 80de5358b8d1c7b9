-- `starts::case_start` meets its contract: the places passed are set. Assumes nothing.
use lib.ListN.{replicate}
use Rattle.real.specs.Literals.{nought}
use Rattle.layout.specs.Table.Laws.{Stored}
use Rattle.starts.specs.Starts.{case_vm, case_va}
use Rattle.starts.proofs.case_start.Given as goal

abbrev pub invariant-loop-b : goal.invariant-loop-b
invariant-loop-b l = Stored (case_vm l.buses.vm_set.now l.buses.vm_case.now) (replicate 32 nought) l.n l.b l.vm × Stored (case_va l.buses.va_case.now l.r) (replicate 32 nought) l.n l.b l.va

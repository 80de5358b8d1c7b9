-- `ybus::first_fault` meets its contract: no row passed is at fault. Assumes nothing.
use Rattle.std.proofs.Common.{◌≡◌, ◌≤◌, length}
use Rattle.real.specs.First.Laws.{Clear}
use Rattle.network.specs.Columns.{branches_in}
use Rattle.ybus.specs.Fault.{row_fails}
use Rattle.ybus.proofs.first_fault.Given as goal

abbrev pub invariant-loop-e : goal.invariant-loop-e
invariant-loop-e l = (l.e ≤ l.e-end) × (l.e-end ≡ length l.ends.from.now) × Clear l.e (row_fails (branches_in l.ends) l.tap)

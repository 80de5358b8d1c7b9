-- `lines::Printer::put_branches` meets its contract: one line more for each branch. Assumes nothing.
use Rattle.std.proofs.Common.{add-one, arith, refl}
use Rattle.lines.specs.Lines.{branch_lines}
use Rattle.lines.specs.Printer.Laws.{nothing_printed, in_turn, at_most}
use Rattle.lines.proofs.Printer.put_branches.Goals as goal

pub loop-e-init : goal.loop-e-init
unfolding branch_lines
loop-e-init c = nothing_printed _

pub loop-e-preserved : goal.loop-e-preserved
unfolding branch_lines
loop-e-preserved c = at_most (rw add-one refl) (omega arith) (in_turn c.loop-e.invariant c.put_branch.ensures)

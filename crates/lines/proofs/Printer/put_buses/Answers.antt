-- `lines::Printer::put_buses` meets its contract: one line more for each bus. Assumes nothing.
use Rattle.std.proofs.Common.{add-one, arith, refl}
use Rattle.lines.specs.Lines.{bus_lines}
use Rattle.lines.specs.Printer.Laws.{nothing_printed, in_turn, at_most}
use Rattle.lines.proofs.Printer.put_buses.Goals as goal

pub loop-b-init : goal.loop-b-init
unfolding bus_lines
loop-b-init c = nothing_printed _

pub loop-b-preserved : goal.loop-b-preserved
unfolding bus_lines
loop-b-preserved c = at_most (rw add-one refl) (omega arith) (in_turn c.loop-b.invariant c.put_bus.ensures)

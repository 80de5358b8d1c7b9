-- `lines::Printer::put_bus` meets its contract: its parts in turn. Assumes nothing.
use Rattle.lines.specs.Lines.{bus_line}
use Rattle.lines.specs.Printer.Laws.{in_turn}
use Rattle.lines.proofs.Printer.put_bus.Goals as goal

pub returns : goal.returns
unfolding bus_line
returns c = in_turn (in_turn (in_turn (in_turn c.put_decimal.ensures c.put_byte.ensures) c.put_byte-2.ensures) c.put_four.ensures) c.put_byte-3.ensures

-- `lines::Printer::put_ok` meets its contract: its parts in turn. Assumes nothing.
use Rattle.lines.specs.Lines.{ok_line}
use Rattle.lines.specs.Printer.Laws.{in_turn}
use Rattle.lines.proofs.Printer.put_ok.Goals as goal

pub returns : goal.returns
unfolding ok_line
returns c = in_turn (in_turn (in_turn c.put.ensures c.put_count.ensures) c.put_gap.ensures) c.put_byte.ensures

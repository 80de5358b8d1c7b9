-- `lines::Printer::put_branch` meets its contract: its parts in turn. Assumes nothing.
use Rattle.lines.specs.Lines.{branch_line}
use Rattle.lines.specs.Printer.Laws.{in_turn}
use Rattle.lines.proofs.Printer.put_branch.Goals as goal

pub returns : goal.returns
unfolding branch_line
returns c = in_turn (in_turn (in_turn c.put_decimal.ensures c.put_four.ensures) c.put_gap.ensures) c.put_byte.ensures

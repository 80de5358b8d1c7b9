-- `lines::Printer::put_four` meets its contract: its parts in turn. Assumes nothing.
use Rattle.lines.specs.Lines.{four_reals}
use Rattle.lines.specs.Printer.Laws.{in_turn}
use Rattle.lines.proofs.Printer.put_four.Goals as goal

pub returns : goal.returns
unfolding four_reals
returns c = in_turn (in_turn (in_turn c.put_gap.ensures c.put_gap-2.ensures) c.put_gap-3.ensures) c.put_gap-4.ensures

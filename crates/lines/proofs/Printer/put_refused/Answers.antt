-- `lines::Printer::put_refused` meets its contract: its parts in turn. Assumes nothing.
use Rattle.std.proofs.Common.{arith, refl}
use Rattle.lines.specs.Lines.{refused_line}
use Rattle.lines.specs.Printer.Laws.{in_turn, at_most}
use Rattle.lines.proofs.Printer.put_refused.Goals as goal

pub returns : goal.returns
unfolding refused_line
returns c = at_most refl (omega arith) (in_turn (in_turn (in_turn c.put.ensures c.put_count.ensures) c.put_values.ensures) c.put_byte.ensures)

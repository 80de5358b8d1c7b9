-- The values passed have been printed.
use Rattle.std.proofs.Common.{◌*◌, take}
use Rattle.lines.specs.Lines.{printed_values}
use Rattle.lines.specs.Printer.{Printed}
use Rattle.lines.proofs.Printer.put_values.Given as goal

abbrev pub invariant-loop-v : goal.invariant-loop-v
invariant-loop-v l = Printed (printed_values (take l.v-index l.values)) (21 * l.v-index) l.initial.self l.self

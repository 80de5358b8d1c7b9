-- The lines of the buses passed have been printed.
use Rattle.std.proofs.Common.{◌*◌}
use Rattle.lines.specs.Lines.{bus_lines}
use Rattle.lines.specs.Printer.{Printed}
use Rattle.lines.proofs.Printer.put_buses.Given as goal

abbrev pub invariant-loop-b : goal.invariant-loop-b
invariant-loop-b l =
    Printed (bus_lines l.b l.buses.vm.now l.buses.va.now l.buses.p.now l.buses.q.now l.buses.kinds.now) (91 * l.b) l.initial.self l.self

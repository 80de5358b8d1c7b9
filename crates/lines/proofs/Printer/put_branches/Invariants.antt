-- The lines of the branches passed have been printed.
use Rattle.std.proofs.Common.{◌*◌}
use Rattle.lines.specs.Lines.{branch_lines}
use Rattle.lines.specs.Printer.{Printed}
use Rattle.lines.proofs.Printer.put_branches.Given as goal

abbrev pub invariant-loop-e : goal.invariant-loop-e
invariant-loop-e l =
    Printed (branch_lines l.e l.f.pf l.f.qf l.f.pt l.f.qt l.f.loss) (106 * l.e) l.initial.self l.self

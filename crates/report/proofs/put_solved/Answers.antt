-- `report::put_solved` meets its contract: the first line, the buses, the branches. Assumes nothing.
use Rattle.std.proofs.Common.{arith, refl}
use Rattle.lines.specs.Printer.Laws.{in_turn, at_most}
use Rattle.report.proofs.put_solved.Goals as goal

pub returns : goal.returns
returns c =
    let r = c.requires.0 in
    at_most refl (omega (arith, r.buses, r.branches)) (in_turn (in_turn c.put_ok.ensures c.put_buses.ensures) c.put_branches.ensures)

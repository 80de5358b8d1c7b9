-- `ybus::build_ybus` meets its contract, by those of its steps. Assumes nothing.
use Rattle.ybus.specs.Ybus.Laws.{entries-are, fit-ends}
use Rattle.ybus.proofs.build_ybus.Goals as goal

pub returns : goal.returns
returns c =
    entries-are _ _ c.requires c.admittances-y.result c.admittances-y.ensures c.diagonals-d.result c.diagonals-d.ensures
    c.bus_column-row.result c.bus_column-col.result c.bus_column-row.ensures c.bus_column-col.ensures
    c.diagonal_parts.result c.with_branches-parts.result c.diagonal_parts.ensures c.with_branches-parts.ensures

pub diagonals-d-requires : goal.diagonals-d-requires
diagonals-d-requires c = fit-ends c.requires

-- `columns::fill` meets its contract, by the turns of a column. Assumes nothing.
use Rattle.columns.specs.Columns.{cell_of}
use Rattle.columns.specs.Columns.Laws.{Filling}
use Rattle.columns.proofs.fill.Given as goal

abbrev pub invariant-loop-x : goal.invariant-loop-x
invariant-loop-x g l = Filling (λ r. g.T.Cell.value (cell_of l.j r)) l.l 0 l.e l.initial.out l.i l.x-index l.out

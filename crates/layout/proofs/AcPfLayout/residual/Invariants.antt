-- `AcPfLayout::residual` meets its contract: the rows of the buses passed are stored. Assumes nothing.
use Rattle.layout.specs.Table.Laws.{Counted}
use Rattle.layout.specs.Layout.{p_row, q_row}
use Rattle.layout.specs.Residual.{powers_in, residual_to}
use Rattle.layout.proofs.AcPfLayout.residual.Given as goal

abbrev pub invariant-loop-b : goal.invariant-loop-b
invariant-loop-b l = Counted (λ i. residual_to i (p_row l.self) (q_row l.self) (powers_in l.w)) l.self.n l.b l.r

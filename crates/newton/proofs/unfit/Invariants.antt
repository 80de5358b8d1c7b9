-- `newton::unfit` meets its contract: whether any bus passed is unfit. Assumes nothing.
use Rattle.layout.specs.Table.Laws.{Counted}
use Rattle.newton.specs.Step.{unfit_to}
use Rattle.newton.proofs.unfit.Given as goal

abbrev pub invariant-loop-b : goal.invariant-loop-b
invariant-loop-b l = Counted (λ i. unfit_to i l.p) l.n l.b l.bad

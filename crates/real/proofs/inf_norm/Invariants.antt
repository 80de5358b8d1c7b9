-- `real::inf_norm` meets its contract. The invariant: no entry passed is NaN, and the norm so far is their largest. Assumes nothing.
use Rattle.std.proofs.Common.{◌≤◌}
use Rattle.real.specs.Norm.Laws.{Found}
use Rattle.real.proofs.inf_norm.Given as goal

abbrev pub invariant-loop-x : goal.invariant-loop-x
invariant-loop-x l = (l.x-index ≤ l.n) × Found l.x-index l.v l.norm

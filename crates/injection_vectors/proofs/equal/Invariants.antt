-- `injection_vectors::equal` meets its contract: the places passed are alike. Assumes nothing.
use Rattle.std.proofs.Common.{◌≡◌, ℕ, ◌<◌, get_or}
use Rattle.injection_vectors.proofs.equal.Given as goal

abbrev pub invariant-loop-b : goal.invariant-loop-b
invariant-loop-b g l = (d : g.row.T.Denot) (k : ℕ) → k < l.b → get_or l.fn.xs k d ≡ get_or l.ys k d

-- `injection_vectors::equal` meets its contract: the places passed are alike. Assumes nothing.
use Rattle.std.proofs.Common.{refl, arith}
use Rattle.injection_vectors.proofs.Agreement.{alike}
use Rattle.injection_vectors.proofs.equal.Goals as goal

pub returns : goal.returns
returns g c = (λ e. alike c.args.xs c.args.ys (omega arith) (λ d i h. c.loop-b.invariant d i (omega arith)), λ h. refl)

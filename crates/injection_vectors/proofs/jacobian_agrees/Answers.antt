-- `injection_vectors::jacobian_agrees` meets its contract: there is one workspace of zeros. Assumes nothing.
use Rattle.injection_vectors.proofs.Agreement.{zeros, entries-told}
use Rattle.injection_vectors.proofs.jacobian_agrees.Goals as goal

pub returns : goal.returns
returns c = entries-told _ _ _ _ _ _ _ zeros c.jacobian_at.ensures c.space_told.ensures

-- `injection_vectors::below` meets its contract: no row that is not below n is found exactly where each is below. Assumes nothing.
use Rattle.std.proofs.Common.{◌∙◌}
use Rattle.network.specs.Missing.Laws.{column_found}
use Rattle.injection_vectors.proofs.Agreement.{below-told}
use Rattle.injection_vectors.proofs.below.Goals as goal

pub returns : goal.returns
returns c = let a = c.args in below-told a.n a.l.now c.first_missing.result _ c.is_none.ensures (c.first_missing.ensures ∙ column_found a.n a.l.now)

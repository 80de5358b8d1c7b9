-- `tables::run` meets its contract: by those of its calls. Assumes nothing.
use Rattle.tables.specs.Tables.Laws.{run-from-parts}
use Rattle.tables.proofs.run.Goals as goal

pub returns : goal.returns
returns c = run-from-parts _ _ _ _ _ _ _ c.ac_pf_with_start-r.ensures c.zero.ensures c.ac_pf_with_start-r.auto.w

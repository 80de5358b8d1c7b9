-- `tables::solve_ready` meets its contract: by those of the run and the writing. Assumes nothing.
use Rattle.pf_ac.specs.WithStart.Laws.{good-triplets}
use Rattle.tables.specs.Tables.Laws.{ready-answer}
use Rattle.tables.proofs.solve_ready.Goals as goal

pub write-requires : goal.write-requires
write-requires c = (good-triplets _ c.requires.0, c.requires.1)

pub returns-clause-answer : goal.returns-clause-answer
returns-clause-answer c = ready-answer _ _ _ _ _ _ _ c.run-r.ensures c.write.result _ c.write.ensures.written

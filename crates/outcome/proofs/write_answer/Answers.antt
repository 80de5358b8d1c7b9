-- `outcome::write_answer` meets its contract, column by column. Assumes nothing.
use Rattle.std.proofs.Common.{rules}
use Rattle.outcome.specs.Outcome.Laws.{answer-copied}
use Rattle.outcome.proofs.write_answer.Goals as goal

pub returns-clause-written : goal.returns-clause-written
returns-clause-written c =
    answer-copied _ _ _ _ _ c.ac_injections.result c.ac_injections.ensures _ c.letters-letters.ensures c.requires.1
    (search rules) (search rules) (search rules) (search rules) (search rules)
    _ _ _ _ _
    c.fill.ensures c.fill-2.ensures c.fill-3.ensures c.fill-4.ensures c.fill-5.ensures

-- `report::report` meets its contract: the answer, printed. Assumes nothing.
use Rattle.report.specs.Report.Laws.{printed-reported}
use Rattle.report.proofs.report.Goals as goal

pub returns-clause-reported : goal.returns-clause-reported
returns-clause-reported c = printed-reported _ _ _ c.answer-r.ensures.answer (rw c.read.ensures at c.put_answer.ensures.0)

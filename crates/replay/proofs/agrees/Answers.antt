-- `replay::agrees` meets its contract: the buffer's first places, as many as `report` answers, are the report. Assumes nothing.
use mathlib.Core.Path.{◌∙◌, sym}
use lib.Pointwise.{bytes_decides}
use Rattle.replay.proofs.Front.{front}
use Rattle.replay.proofs.agrees.Goals as goal

pub returns : goal.returns
returns c =
    let report = c.report-k.ensures in
    let is = front report.reported.written report.prefix_len.0 in
    let same = bytes_decides _ c.args.answer.now in
    (λ e. sym is ∙ same.0 (sym c.eq.ensures ∙ e), λ e. c.eq.ensures ∙ same.1 (is ∙ e))

-- `linsolve_vectors::agrees` meets its contract, by the laws of proofs/Agreement.antt. Assumes nothing.
use mathlib.Core.Path.{sym, ◌∙◌}
use Rattle.linsolve_vectors.proofs.Agreement.{agreement, agreed-space}
use Rattle.linsolve_vectors.proofs.agrees.Goals as goal

pub returns : goal.returns
returns c =
    let number = c.number.ensures in
    let if1 = c.if-number-answer.false in
    let solve = c.solve-found.ensures in
    let fill = c.fill.ensures in
    let size = c.size.ensures.0 in
    let holds = c.holds.ensures in
    (λ e. agreement _ _ _ _ _ _ fill solve (sym number ∙ if1) (rw size at (holds.0 e)), λ a. holds.1 (rw size (agreed-space _ _ _ _ _ _ fill solve a)))

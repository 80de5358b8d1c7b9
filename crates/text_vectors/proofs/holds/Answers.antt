-- `text_vectors::holds` meets its contract: the length is compared, and then each place. Assumes nothing.
use Rattle.std.proofs.Common.{sym, ap, ◌∙◌, arith}
use Rattle.real.specs.Tests.{true-false}
use Rattle.text_vectors.proofs.Telling.{wrong_length, wrong_place, places-told}
use Rattle.text_vectors.proofs.holds.Goals as goal

pub returns-then-col-width : goal.returns-then-col-width
returns-then-col-width g c = wrong_length c.args.col.now _ _ (λ e. c.if-col-width.true (e ∙ sym c.width.ensures.0))

pub returns-then-not-is : goal.returns-then-not-is
returns-then-not-is g c =
    let told = ap (λ w. g.T.Cell.said w) c.told.ensures in
    wrong_place c.args.col.now _ _ c.index-col-i.result c.loop-i.i (omega arith) (λ e. true-false (c.is.ensures.1 (c.index-col-i.is ∙ e ∙ sym told)) c.if-not-is.true)

pub returns : goal.returns
returns g c = places-told c.args.col.now _ _ (g.T.Cell.said 0) (c.if-col-width.false ∙ c.width.ensures.0) (λ i h. c.loop-i.invariant i (omega arith))

-- `text_vectors::triplets_agree` meets its contract: each column is compared. Assumes nothing.
use Rattle.vectors.specs.Words.Laws.{◌and◌, last-told}
use Rattle.text_vectors.proofs.triplets_agree.Goals as goal

pub returns : goal.returns
returns c =
    last-told (c.holds.ensures and c.holds-2.ensures and c.holds-3.ensures and c.holds-4.ensures)
    (λ e. (((λ i. (e i).row, λ i. (e i).col), λ i. (e i).re), λ i. (e i).im))
    (λ (((x0, x1), x2), x3). λ i. record { row = x0 i; col = x1 i; re = x2 i; im = x3 i })

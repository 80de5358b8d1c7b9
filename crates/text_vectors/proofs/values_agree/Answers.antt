-- `text_vectors::values_agree` meets its contract: each column is compared. Assumes nothing.
use Rattle.vectors.specs.Words.Laws.{◌and◌, last-told}
use Rattle.text_vectors.proofs.values_agree.Goals as goal

pub returns : goal.returns
returns c =
    last-told (c.holds.ensures and c.holds-2.ensures and c.holds-3.ensures and c.holds-4.ensures
    and c.holds-5.ensures and c.holds-6.ensures and c.holds-7.ensures and c.holds-8.ensures
    and c.holds-9.ensures)
    (λ e. ((((((((λ i. (e i).g, λ i. (e i).b), λ i. (e i).g_fr), λ i. (e i).b_fr), λ i. (e i).g_to), λ i. (e i).b_to), λ i. (e i).tap), λ i. (e i).shift), λ i. (e i).sw))
    (λ ((((((((x0, x1), x2), x3), x4), x5), x6), x7), x8). λ i. record { g = x0 i; b = x1 i; g_fr = x2 i; b_fr = x3 i; g_to = x4 i; b_to = x5 i; tap = x6 i; shift = x7 i; sw = x8 i })

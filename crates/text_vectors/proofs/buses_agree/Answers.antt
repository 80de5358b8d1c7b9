-- `text_vectors::buses_agree` meets its contract: each column is compared. Assumes nothing.
use Rattle.vectors.specs.Words.Laws.{◌and◌, last-told}
use Rattle.text_vectors.proofs.buses_agree.Goals as goal

pub returns : goal.returns
returns c =
    last-told (c.holds.ensures and c.holds-2.ensures and c.holds-3.ensures and c.holds-4.ensures
    and c.holds-5.ensures and c.holds-6.ensures and c.holds-7.ensures and c.holds-8.ensures)
    (λ e. (((((((λ i. (e i).kind, λ i. (e i).vm_set), λ i. (e i).pd), λ i. (e i).qd), λ i. (e i).pg), λ i. (e i).qg), λ i. (e i).vm_case), λ i. (e i).va_case))
    (λ (((((((x0, x1), x2), x3), x4), x5), x6), x7). λ i. record { kind = x0 i; vm_set = x1 i; pd = x2 i; qd = x3 i; pg = x4 i; qg = x5 i; vm_case = x6 i; va_case = x7 i })

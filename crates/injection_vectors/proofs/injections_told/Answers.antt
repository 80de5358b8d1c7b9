-- `injection_vectors::injections_told` meets its contract: injections are their parts. Assumes nothing.
use Rattle.std.proofs.Common.{sym, ◌∙◌}
use Rattle.vectors.specs.Words.Laws.{◌and◌, last-told}
use Rattle.injection_vectors.specs.Told.{injections_told}
use Rattle.injection_vectors.proofs.injections_told.Goals as goal

pub returns : goal.returns
unfolding injections_told
returns c =
    let v = c.told.ensures in
    let i = c.told-2.ensures in
    let p = c.told-3.ensures in
    let q = c.told-4.ensures in
    last-told (c.equal.ensures and c.equal-2.ensures and c.equal-3.ensures and c.equal-4.ensures)
    (λ e. ((((λ k. (e k).phasors.v) ∙ sym v, (λ k. (e k).phasors.i) ∙ sym i), (λ k. (e k).power.p) ∙ sym p), (λ k. (e k).power.q) ∙ sym q))
    (λ (((a, b), x), y). λ k. record { phasors = record { v = (a ∙ v) k; i = (b ∙ i) k }; power = record { p = (x ∙ p) k; q = (y ∙ q) k } })

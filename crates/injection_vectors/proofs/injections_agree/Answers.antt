-- `injection_vectors::injections_agree` meets its contract: what is found is the definition's, at what is told. Assumes nothing.
use Rattle.std.proofs.Common.{◌∙◌}
use Rattle.vectors.specs.Words.Laws.{same-told}
use Rattle.injections.specs.Injections.{injections_of}
use Rattle.injection_vectors.specs.Told.{injections_at}
use Rattle.injection_vectors.proofs.injections_agree.Goals as goal

pub returns : goal.returns
unfolding injections_at
returns c =
    let v = c.voltages.ensures in
    same-told (c.ac_injections-found.ensures ∙ (λ i. injections_of c.args.r.n (c.requires.1 i) (v i).vm (v i).va)) c.injections_told.ensures

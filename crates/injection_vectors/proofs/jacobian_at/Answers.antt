-- `injection_vectors::jacobian_at` meets its contract: what is added is the definition's, at what is told. Assumes nothing.
use Rattle.std.proofs.Common.{◌∙◌}
use Rattle.injections.specs.Injections.{phasors_of}
use Rattle.injections.specs.Jacobian.{jacobian_of}
use Rattle.injection_vectors.specs.Told.{jacobian_at}
use Rattle.injection_vectors.proofs.jacobian_at.Goals as goal

pub returns : goal.returns
unfolding jacobian_at
returns c =
    let y = c.requires.2 in
    let v = c.voltages-p.ensures in
    let s = c.bus_phasors-phasors.ensures ∙ (λ i. phasors_of c.args.r.n (y i) (v i).vm (v i).va) in
    c.ac_jacobian.ensures ∙ (λ i. jacobian_of (y i) (v i).va (s i) (c.layout_at.ensures i) c.args.w.now)

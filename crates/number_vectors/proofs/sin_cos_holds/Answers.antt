-- `number_vectors::sin_cos_holds` meets its contract: a pair is what it should be where both of its parts are. Assumes nothing.
use mathlib.Core.Path.{◌≡◌, ap, ◌∙◌}
use lib.Ieee.{Float}
use Rattle.trig.specs.declared.SinCos.{SinCos}
use Rattle.trig.specs.Sine.{pair}
use Rattle.vectors.specs.Words.Laws.{◌and◌, last-told}
use Rattle.number_vectors.proofs.sin_cos_holds.Goals as goal

module _ (v w : SinCos) (s t : Float) (vw : v ≡ w) where
  joined : (v.sin ≡ s) × (v.cos ≡ t) → w ≡ pair s t
  unfolding pair
  joined p = rw (← vw, ← p.0, ← p.1)

  parts : w ≡ pair s t → (v.sin ≡ s) × (v.cos ≡ t)
  unfolding pair
  parts p = (ap (λ (x : SinCos). x.sin) (vw ∙ p), ap (λ (x : SinCos). x.cos) (vw ∙ p))

pub returns : goal.returns
returns c =
    let e = rw c.double_at.ensures at c.sin_cos-r.ensures in
    let sine = rw c.double_at-2.ensures at c.same.ensures in
    let cosine = rw c.double_at-3.ensures at c.same-2.ensures in
    last-told (sine and cosine) (parts _ _ _ _ e) (joined _ _ _ _ e)

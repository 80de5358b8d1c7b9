-- The Jacobian's entries are added to what stands in the workspace, and nothing else of it is read: workspaces that are alike stay so. Assumes nothing.
use Rattle.std.specs.Prelude.{ℕ, zero, suc, Bool, cond, List, ltb, length, Float}
use Rattle.std.proofs.Math.Bool.{true, false}
use Rattle.layout.specs.declared.AcPfLayout.{AcPfLayout}
use Rattle.layout.specs.Layout.{none}
use Rattle.linsolve.specs.Linear.{added}
use Rattle.linsolve.specs.Linear.Space.{Alike, added-alike}
use Rattle.network.specs.Network.{Triplets}
use Rattle.injections.specs.declared.Phasors.{Phasors}
use Rattle.injections.specs.declared.Derivatives.{Derivatives}
use Rattle.injections.specs.Jacobian.{entered, entered_all, places_of, jacobian_to, jacobian_of}
use Rattle.injections.specs.Jacobian.Laws.{jacobian-end, jacobian-turn}

module _ {dim : ℕ} where
  entered-alike : {w v : List Float} → Alike dim w v → (row col : ℕ) (x : Float) → Alike dim (entered row col x w) (entered row col x v)
  unfolding entered
  entered-alike {w} {v} a row col x = go (ltb row none) (ltb col none)
    where
      go : (s t : Bool) → Alike dim (cond s (cond t (added row col x w) w) w) (cond s (cond t (added row col x v) v) v)
      go true true = added-alike a row col x
      go true false = a
      go false t = a

  entered-all-alike : {w v : List Float} → Alike dim w v → (p q va vm : ℕ) (d : Derivatives) → Alike dim (entered_all p q va vm d w) (entered_all p q va vm d v)
  unfolding entered_all
  entered-all-alike a p q va vm d =
      entered-alike (entered-alike (entered-alike (entered-alike a p va d.dva.re) p vm d.dvm.re) q va d.dva.im) q vm d.dvm.im

  module _ (y : Triplets) (va : List Float) (s : Phasors) (l : AcPfLayout) {w v : List Float} (a : Alike dim w v) where
    jacobian-alike : (k : ℕ) → Alike dim (jacobian_to k y va s (places_of l) w) (jacobian_to k y va s (places_of l) v)
    jacobian-alike zero = simp jacobian-end a
    jacobian-alike (suc k) = simp jacobian-turn (entered-all-alike (jacobian-alike k) _ _ _ _ _)

    pub jacobian-space : Alike dim (jacobian_of y va s l w) (jacobian_of y va s l v)
    jacobian-space = jacobian-alike (length y.row)

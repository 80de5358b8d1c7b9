-- Demand 3 at this level: a residual does not read a figure of a bus that has no row for it. Assumes nothing.
use Rattle.std.specs.Prelude.{ℕ, ◌<◌, ◌≡◌, List, ◌⊎◌, get_or, Float}
use Rattle.std.proofs.Common.{inl, inr}
use Rattle.std.specs.Float.{nan}
use Rattle.layout.specs.declared.BusKind.{BusKind}
use Rattle.layout.specs.declared.BusKind.TheVariants.{Slack, Pv}
use Rattle.layout.specs.Layout.{none, kind_of}
use Rattle.layout.specs.Residual.{Powers, at_row}

-- what is stored at a missing row is lost
pub lost : (r : List Float) (row : ℕ) (x y : Float) → (row ≡ none) ⊎ (x ≡ y) → at_row r row x ≡ at_row r row y
unfolding at_row
lost r row x y (inl e) = rw e
lost r row x y (inr e) = rw e

-- the kinds that read neither figure, and those that read no reactive one
abbrev pub NoActive : BusKind → Type 0
NoActive k = k ≡ Slack

abbrev pub NoReactive : BusKind → Type 0
NoReactive k = (k ≡ Slack) ⊎ (k ≡ Pv)

-- two sets of figures, alike where the kinds read them; what the voltages give is the same in both
pub record AlikeFor (n : ℕ) (kinds : List BusKind) (w v : Powers) : Type 0 where
  pub calc_p : w.p ≡ v.p
  pub calc_q : w.q ≡ v.q
  pub active : (b : ℕ) → b < n → NoActive (kind_of kinds b) ⊎ ((get_or w.pg b nan ≡ get_or v.pg b nan) × (get_or w.pd b nan ≡ get_or v.pd b nan))
  pub reactive : (b : ℕ) → b < n → NoReactive (kind_of kinds b) ⊎ ((get_or w.qg b nan ≡ get_or v.qg b nan) × (get_or w.qd b nan ≡ get_or v.qd b nan))

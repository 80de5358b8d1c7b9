-- The first start from the flat one on, and those after it. Assumes nothing.
use Rattle.std.specs.Prelude.{ℕ, zero, suc, ◌≡◌, refl, List}
use Rattle.std.proofs.Common.{arith}
use Rattle.layout.specs.declared.BusKind.{BusKind}
use Rattle.layout.specs.declared.Point.{Point}
use Rattle.starts.specs.Starts.{perturbed_of, from_flat}

pub flat-first : (n : ℕ) (kinds : List BusKind) (flat : Point) (i : ℕ) → i ≡ 0 → flat ≡ from_flat n kinds flat i
unfolding from_flat
flat-first n kinds flat zero e = refl
flat-first n kinds flat (suc i) e = absurd (omega arith)

pub then-perturbed : (n : ℕ) (kinds : List BusKind) (flat : Point) (i : ℕ) → (i ≡ 0 → ⊥) → perturbed_of n kinds flat i ≡ from_flat n kinds flat i
unfolding from_flat
then-perturbed n kinds flat zero h = absurd (h refl)
then-perturbed n kinds flat (suc i) h = refl

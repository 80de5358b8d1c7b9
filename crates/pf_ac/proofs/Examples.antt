-- Demand 3's assumption can be met: three buses S, V, Q with x in every place that 01 withholds under the flat start. Assumes nothing.
use Prim.Native.Nat.{ℕ, zero, suc, ◌<◌}
use mathlib.Core.Bool.{true, true≢false}
use mathlib.Core.List.{[], ◌∷◌}
use mathlib.Core.Logic.{inl, inr}
use mathlib.Core.Path.{◌≡◌, refl, sym, ap}
use native.Mathlib.Omega.{arith}
use lib.ListN.{get_or}
use lib.Ieee.{Float, nan, of_bits, lt}
use Rattle.real.specs.Tests.{both}
use Rattle.real.specs.Any.{any_below}
use Rattle.real.specs.First.{first_below}
use Rattle.real.specs.Literals.{nought, one}
use Rattle.network.specs.Network.{Network, buses_of, slacks_of, generators_of, branches_of, triplets_of, network_of}
use Rattle.network.specs.Checks.{counted, WellIndexed}
use Rattle.network.specs.Missing.{in_column, in_ends, missing_in}
use Rattle.network.specs.Checks.Laws.{well-indexed}
use Rattle.std.specs.Prelude.{None}
use Rattle.starts.specs.declared.AcStart.TheVariants.{Flat}
use Rattle.pf_ac.specs.WithStart.Withheld.{Alike}

-- all four powers at the slack bus, qg at the V bus, the limits of the generators at the slack and the Q bus, and every stored voltage
abbrev pub sample : Float → Network
sample x =
    network_of
    (buses_of (81 ∷ 86 ∷ 81 ∷ []) (one ∷ one ∷ one ∷ []) (x ∷ one ∷ one ∷ []) (x ∷ one ∷ one ∷ []) (x ∷ one ∷ one ∷ []) (x ∷ x ∷ one ∷ []) (x ∷ x ∷ x ∷ []) (x ∷ x ∷ x ∷ []))
    (slacks_of (0 ∷ []) (nought ∷ []))
    (generators_of (0 ∷ 1 ∷ 2 ∷ []) (x ∷ nought ∷ x ∷ []) (x ∷ one ∷ x ∷ []))
    (branches_of (0 ∷ 1 ∷ 0 ∷ []) (1 ∷ 2 ∷ 2 ∷ []))
    (triplets_of (0 ∷ 1 ∷ 2 ∷ []) (0 ∷ 1 ∷ 2 ∷ []) (one ∷ one ∷ one ∷ []) (one ∷ one ∷ one ∷ []))

sample-counted : (x : Float) → counted (sample x) ≡ true
unfolding counted both
sample-counted x = refl

none_missing : (x : Float) → missing_in (sample x) ≡ None
unfolding missing_in in_column in_ends first_below
none_missing x = refl

pub sample-well-indexed : (x : Float) → WellIndexed (sample x)
sample-well-indexed x = well-indexed (sample x) (sample-counted x) (none_missing x)

-- what holds at 0, 1 and 2 holds below 3
below-3 : (P : ℕ → Type 0) → P 0 → P 1 → P 2 → (b : ℕ) → b < 3 → P b
below-3 P p q r zero h = p
below-3 P p q r (suc zero) h = q
below-3 P p q r (suc (suc zero)) h = r
below-3 P p q r (suc (suc (suc b))) h = absurd (omega arith)

pub sample-alike : (x y : Float) → Alike Flat (sample x) (sample y)
unfolding any_below
sample-alike x y =
    record {
      buses = record {
        kind = refl;
        vm_set = refl;
        pd = record { size = refl; same = below-3 _ (inl refl) (inr refl) (inr refl) };
        qd = record { size = refl; same = below-3 _ (inl refl) (inr refl) (inr refl) };
        pg = record { size = refl; same = below-3 _ (inl refl) (inr refl) (inr refl) };
        qg = record { size = refl; same = below-3 _ (inl (inl refl)) (inl (inr refl)) (inr refl) };
        vm_case = record { size = refl; same = inl refl };
        va_case = record { size = refl; same = inl refl };
      };
      slacks = refl;
      generators = record {
        bus = refl;
        qmin = record { size = refl; same = below-3 _ (inl (inl refl)) (inr refl) (inl (inr refl)) };
        qmax = record { size = refl; same = below-3 _ (inl (inl refl)) (inr refl) (inl (inr refl)) };
      };
      branches = refl;
      triplets = refl;
    }

-- and they do differ
pub samples-differ : sample nought ≡ sample one → ⊥
unfolding of_bits lt
samples-differ e = true≢false (sym (ap (λ (t : Network). lt nought (get_or t.buses.pd 0 nan)) e))

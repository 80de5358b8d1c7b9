-- 01, "Starts" and "References": the case start, the flat start and its four perturbations.
pub mod Laws
use Rattle.std.specs.Prelude.{ℕ, zero, suc, ◌+◌, cond, List, get_or, Option, None, Some, Float}
use Rattle.std.specs.Float.{nan, binary64}
use Rattle.std.specs.Float.Ieee.{add, sub, mul, lt}
use Rattle.std.specs.Float.Ieee.Scale.{finite}
use Rattle.real.specs.Literals.{nought, one, tenth, three_hundredths}
use Rattle.mix.specs.Noise.{mix_of}
use Rattle.layout.specs.declared.BusKind.{BusKind}
use Rattle.layout.specs.declared.BusKind.TheVariants.{Slack, Pv, Pq}
use Rattle.layout.specs.declared.Point.{Point}
use Rattle.layout.specs.Layout.{kind_of}
use Rattle.layout.specs.Table.{table}
use Rattle.starts.specs.declared.References.{References}

-- ---- the case start

-- "0.0 standing for what isn't finite"
unfoldable pub finite_or : Float → Float
finite_or x = cond (finite x) x nought

-- "A case start uses a stored magnitude only if finite and above 0"
unfoldable pub magnitude_for : Float → Float → Float
magnitude_for stored set = cond (finite stored) (cond (lt nought stored) stored set) set

-- the stored angle of the island's slack; 0.0 where there is none
unfoldable pub slack_angle : List Float → Option ℕ → Float
unfolding finite_or
slack_angle angles None = nought
slack_angle angles (Some s) = finite_or (get_or angles s nan)

-- "Its angles add to the reference the stored angle less the slack's"
unfoldable pub angle_for : Float → Float → Float → Float
unfolding finite_or
angle_for reference stored slack = add binary64 reference (finite_or (sub binary64 stored slack))

abbrev pub case_vm : List Float → List Float → ℕ → Float
case_vm set stored b = magnitude_for (get_or stored b nan) (get_or set b nan)

abbrev pub case_va : List Float → References → ℕ → Float
case_va stored r b = angle_for (get_or r.va b nan) (get_or stored b nan) (slack_angle stored (get_or r.slack b None))

unfoldable pub case_of : ℕ → List Float → List Float → List Float → References → Point
unfolding magnitude_for angle_for slack_angle
case_of n set vm va r = record { vm = table n nought (case_vm set vm); va = table n nought (case_va va r) }

-- ---- the flat start

-- set magnitudes, and each angle at its island's reference
unfoldable pub flat_of : ℕ → List Float → References → Point
flat_of n set r = record { vm = table n nought (λ b. get_or set b nan); va = table n nought (λ b. get_or r.va b nan) }

-- ---- the perturbed starts

-- "non-slack angles + 0.10·mix(bus, r)"
abbrev pub nudged : BusKind → Float → ℕ → ℕ → Float
nudged Slack x b r = x
nudged Pv x b r = add binary64 x (mul binary64 tenth (mix_of b r))
nudged Pq x b r = add binary64 x (mul binary64 tenth (mix_of b r))

-- "magnitudes times 1 + 0.03·mix(bus, r + 1000)", at the same buses
abbrev pub scaled : BusKind → Float → ℕ → ℕ → Float
scaled Slack x b r = x
scaled Pv x b r = mul binary64 x (add binary64 one (mul binary64 three_hundredths (mix_of b (r + 1000))))
scaled Pq x b r = mul binary64 x (add binary64 one (mul binary64 three_hundredths (mix_of b (r + 1000))))

unfoldable pub perturbed_of : ℕ → List BusKind → Point → ℕ → Point
perturbed_of n kinds flat r =
    record {
      vm = table n nought (λ b. scaled (kind_of kinds b) (get_or flat.vm b nan) b r);
      va = table n nought (λ b. nudged (kind_of kinds b) (get_or flat.va b nan) b r);
    }

-- flat, then perturbed: r from 1 on
unfoldable pub from_flat : ℕ → List BusKind → Point → ℕ → Point
unfolding perturbed_of
from_flat n kinds flat zero = flat
from_flat n kinds flat (suc i) = perturbed_of n kinds flat (suc i)

-- 01, "Injections": voltages are polar numbers, currents are summed from zero in triplet order, S = v times the conjugate current.
-- By-value tables of 32 places; those past the bus count are +0.0.
pub mod Laws
use Rattle.std.specs.Prelude.{ℕ, zero, suc, ◌≤◌, List, ◌≡◌, length, get_or, set, replicate, Float}
use Rattle.std.specs.Float.{nan}
use Rattle.real.specs.Literals.{nought}
use Rattle.complex.specs.declared.Complex.{Complex}
use Rattle.complex.specs.Numbers as Numbers
use Rattle.complex.specs.Numbers.{complex, sum_of, conjugate_of, product_of, polar_of}
use Rattle.network.specs.Network.{Triplets}
use Rattle.network.specs.Below.{Below}
use Rattle.layout.specs.Table.{table}
use Rattle.injections.specs.declared.Phasors.{Phasors}
use Rattle.injections.specs.declared.Injected.{Injected}
use Rattle.injections.specs.declared.Injections.{Injections}

-- what the checks of the solve leave: at most 32 buses, columns of one length, bus numbers below the bus count
pub record GoodTriplets (n : ℕ) (y : Triplets) : Type 0 where
  pub few : n ≤ 32
  pub cols : length y.col ≡ length y.row
  pub res : length y.re ≡ length y.row
  pub ims : length y.im ≡ length y.row
  pub rows_below : Below n y.row
  pub cols_below : Below n y.col

-- the row, the column and the admittance of triplet t
abbrev pub row_of : Triplets → ℕ → ℕ
row_of y t = get_or y.row t 0

abbrev pub col_of : Triplets → ℕ → ℕ
col_of y t = get_or y.col t 0

abbrev pub entry_of : Triplets → ℕ → Complex
entry_of y t = complex (get_or y.re t nan) (get_or y.im t nan)

-- the complex number of bus b
abbrev pub at : List Complex → ℕ → Complex
at c b = get_or c b (complex nan nan)

-- f b at each bus b below n
abbrev pub complex_column : ℕ → (ℕ → Complex) → List Complex
complex_column n f = table n Numbers.zero f

-- the voltage of bus b, a polar number of its magnitude and angle
abbrev pub voltage_at : List Float → List Float → ℕ → Complex
voltage_at vm va b = polar_of (get_or vm b nan) (get_or va b nan)

unfoldable pub voltages_of : ℕ → List Float → List Float → List Complex
voltages_of n vm va = complex_column n (voltage_at vm va)

-- "Currents are summed from zero in triplet order": after the first k triplets, y v of the triplet's column added at its row
unfoldable pub currents_to : ℕ → Triplets → List Complex → List Complex
currents_to zero y v = replicate 32 Numbers.zero
currents_to (suc k) y v =
    let c = currents_to k y v in
    set c (row_of y k) (sum_of (at c (row_of y k)) (product_of (entry_of y k) (at v (col_of y k))))

-- voltages, and the currents that they drive
unfoldable pub phasors_of : ℕ → Triplets → List Float → List Float → Phasors
unfolding voltages_of currents_to
phasors_of n y vm va =
    let v = voltages_of n vm va in
    record { v = v; i = currents_to (length y.row) y v }

-- "S = v times the conjugate current": of bus b
abbrev pub power_at : Phasors → ℕ → Complex
power_at s b = product_of (at s.v b) (conjugate_of (at s.i b))

unfoldable pub injected_of : ℕ → Phasors → Injected
injected_of n s = record { p = table n nought (λ b. (power_at s b).re); q = table n nought (λ b. (power_at s b).im) }

-- all of it
abbrev pub injections_of : ℕ → Triplets → List Float → List Float → Injections
injections_of n y vm va =
    let s = phasors_of n y vm va in
    record { phasors = s; power = injected_of n s }

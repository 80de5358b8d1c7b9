-- 01, "Jacobian": as `ac_jacobian`. Each triplet in order gives the derivatives of the power at its row by the angle and by the magnitude at its
-- column, and adds up to four entries to the matrix. Each product binds to the left, as the Rust's operators do.
pub mod Laws
pub mod Space
pub mod FourTables
use Rattle.std.specs.Prelude.{ℕ, zero, suc, cond, List, eqb, ltb, length, get_or, Float}
use Rattle.std.specs.Float.{nan}
use Rattle.real.specs.Literals.{one}
use Rattle.complex.specs.declared.Complex.{Complex}
use Rattle.complex.specs.Numbers.{i, sum_of, difference_of, negation_of, conjugate_of, product_of, polar_of}
use Rattle.layout.specs.declared.AcPfLayout.{AcPfLayout}
use Rattle.layout.specs.Layout.{none, va_col, vm_col, p_row, q_row}
use Rattle.linsolve.specs.Linear.{added}
use Rattle.injections.specs.declared.Phasors.{Phasors}
use Rattle.injections.specs.declared.Derivatives.{Derivatives}
use Rattle.network.specs.Network.{Triplets}
use Rattle.injections.specs.Injections.{row_of, col_of, entry_of, at}

-- by an angle, of a triplet on the diagonal: y its admittance, v the bus's voltage, c its current. (j v) conj(c - y v)
abbrev pub angle_on : Complex → Complex → Complex → Complex
angle_on y v c = product_of (product_of i v) (conjugate_of (difference_of c (product_of y v)))

-- of a triplet off the diagonal: v the voltage at its row, vk that at its column. ((-j) v) conj(y vk)
abbrev pub angle_off : Complex → Complex → Complex → Complex
angle_off y v vk = product_of (product_of (negation_of i) v) (conjugate_of (product_of y vk))

-- by a magnitude: u the voltage of magnitude one at its column. (v conj(y)) conj(u)
abbrev pub magnitude_part : Complex → Complex → Complex → Complex
magnitude_part y v u = product_of (product_of v (conjugate_of y)) (conjugate_of u)

-- on the diagonal conj(c) u is added to that
abbrev pub on_diagonal : Complex → Complex → Complex → Complex → Derivatives
on_diagonal y v c u = record { dva = angle_on y v c; dvm = sum_of (magnitude_part y v u) (product_of (conjugate_of c) u) }

abbrev pub off_diagonal : Complex → Complex → Complex → Complex → Derivatives
off_diagonal y v vk u = record { dva = angle_off y v vk; dvm = magnitude_part y v u }

-- the two derivatives of a triplet at row a and column b
unfoldable pub derivatives_of : ℕ → ℕ → Complex → Complex → Complex → Complex → Complex → Derivatives
derivatives_of a b y v c vk u = cond (eqb a b) (on_diagonal y v c u) (off_diagonal y v vk u)

-- an entry, added where its row and its column exist
unfoldable pub entered : ℕ → ℕ → Float → List Float → List Float
entered row col x w = cond (ltb row none) (cond (ltb col none) (added row col x w) w) w

-- the entries of a row: x in the angle's column, then y in the magnitude's
abbrev pub entered_row : ℕ → ℕ → ℕ → Float → Float → List Float → List Float
entered_row row va vm x y w = entered row vm y (entered row va x w)

-- real parts in the active row, then imaginary parts in the reactive row
unfoldable pub entered_all : ℕ → ℕ → ℕ → ℕ → Derivatives → List Float → List Float
unfolding entered
entered_all p q va vm d w = entered_row q va vm d.dva.im d.dvm.im (entered_row p va vm d.dva.re d.dvm.re w)

-- a voltage of magnitude one, at the angle of bus b
abbrev pub unit_at : List Float → ℕ → Complex
unit_at va b = polar_of one (get_or va b nan)

-- the two derivatives of triplet t
abbrev pub derivatives_at : Triplets → List Float → Phasors → ℕ → Derivatives
derivatives_at y va s t =
    let a = row_of y t in
    let b = col_of y t in
    derivatives_of a b (entry_of y t) (at s.v a) (at s.i a) (at s.v b) (unit_at va b)

-- the rows and columns of each bus
pub record Places : Type 0 where
  pub p_row : ℕ → ℕ
  pub q_row : ℕ → ℕ
  pub va_col : ℕ → ℕ
  pub vm_col : ℕ → ℕ

abbrev pub places_of : AcPfLayout → Places
places_of l = record { p_row = p_row l; q_row = q_row l; va_col = va_col l; vm_col = vm_col l }

-- the workspace after the first k triplets
unfoldable pub jacobian_to : ℕ → Triplets → List Float → Phasors → Places → List Float → List Float
unfolding derivatives_of entered_all
jacobian_to zero y va s l w = w
jacobian_to (suc k) y va s l w =
    let a = row_of y k in
    let b = col_of y k in
    entered_all (l.p_row a) (l.q_row a) (l.va_col b) (l.vm_col b) (derivatives_at y va s k) (jacobian_to k y va s l w)

-- and after all of them
abbrev pub jacobian_of : Triplets → List Float → Phasors → AcPfLayout → List Float → List Float
jacobian_of y va s l w = jacobian_to (length y.row) y va s (places_of l) w

-- What callers read of the injections at a bus, and past the buses; the currents triplet by triplet. Assumes nothing.
use Prim.Native.Nat.{ℕ, zero, suc, ◌≤◌, ◌<◌}
use Rattle.std.specs.Prelude.{◌≡◌, Bool, true, false, cond, List, eqb, length, get_or, set, Float}
use Rattle.std.proofs.Math.Path.{refl}
use Rattle.std.proofs.Common.{sym, ◌∙◌, arith, le_refl, eqb-true, ne_eqb, get_or-set_same, get_or-set_other}
use Rattle.std.proofs.lemmas.Bool.{eqb-false}
use Rattle.std.proofs.Math.ListN.{length-set, length-replicate}
use Rattle.std.proofs.lemmas.List.{get_or-replicate}
use Rattle.std.specs.Float.Ieee.{nan}
use Rattle.real.specs.Literals.{nought}
use Rattle.complex.specs.declared.Complex.{Complex}
use Rattle.complex.specs.Numbers as Numbers
use Rattle.complex.specs.Numbers.{complex, sum_of, product_of}
use Rattle.layout.specs.Table.Laws.{table_at, table-past}
use Rattle.injections.specs.declared.Phasors.{Phasors}
use Rattle.network.specs.Network.{Triplets}
use Rattle.injections.specs.Injections.{GoodTriplets, row_of, col_of, entry_of, at, complex_column, voltage_at, voltages_of, currents_to, phasors_of, power_at, injected_of}

-- ---- columns

module _ (n : ℕ) (f : ℕ → Complex) (b : ℕ) where
  pub column-at : b < n → n ≤ 32 → at (complex_column n f) b ≡ f b
  column-at p few = table_at n Numbers.zero f b (complex nan nan) p few

  pub column-past : n ≤ b → b < 32 → at (complex_column n f) b ≡ Numbers.zero
  column-past p h = table-past n Numbers.zero f b (complex nan nan) p h

pub voltages-at : (n : ℕ) (vm va : List Float) (b : ℕ) → b < n → n ≤ 32 → at (voltages_of n vm va) b ≡ voltage_at vm va b
unfolding voltages_of
voltages-at n vm va b p few = column-at n (voltage_at vm va) b p few

-- ---- currents

pub currents-turn : (k : ℕ) (y : Triplets) (v : List Complex)
    → currents_to (suc k) y v
    ≡ set (currents_to k y v) (row_of y k) (sum_of (at (currents_to k y v) (row_of y k)) (product_of (entry_of y k) (at v (col_of y k))))
unfolding currents_to
currents-turn k y v = refl

-- the products of the first k triplets whose row is bus b, summed from zero in triplet order
unfoldable pub current_at : ℕ → Triplets → List Complex → ℕ → Complex
current_at zero y v b = Numbers.zero
current_at (suc k) y v b = cond (eqb b (row_of y k)) (sum_of (current_at k y v b) (product_of (entry_of y k) (at v (col_of y k)))) (current_at k y v b)

module _ (y : Triplets) (v : List Complex) where
  currents-size : (k : ℕ) → length (currents_to k y v) ≡ 32
  unfolding currents_to
  currents-size zero = length-replicate 32 Numbers.zero
  currents-size (suc k) = simp length-set (currents-size k)

  -- a bus's current is the sum over its own row's triplets
  pub currents-at : (k b : ℕ) → b < 32 → at (currents_to k y v) b ≡ current_at k y v b
  unfolding currents_to current_at
  currents-at zero b h = rw (get_or-replicate 32 b Numbers.zero (complex nan nan) h)
  currents-at (suc k) b h = go (eqb b (row_of y k)) refl (currents-at k b h)
    where
      c : List Complex
      c = currents_to k y v

      x : Complex
      x = sum_of (at c (row_of y k)) (product_of (entry_of y k) (at v (col_of y k)))

      go : (t : Bool) → eqb b (row_of y k) ≡ t → at c b ≡ current_at k y v b
          → at (set c (row_of y k) x) b ≡ cond t (sum_of (current_at k y v b) (product_of (entry_of y k) (at v (col_of y k)))) (current_at k y v b)
      go true e before =
          let here = eqb-true b (row_of y k) e in
          rw (← here, get_or-set_same c b _ (complex nan nan) (rw (currents-size k) h), ← before)
      go false e before =
          let away = eqb-false b (row_of y k) e in
          rw (get_or-set_other c (row_of y k) b x (complex nan nan) away) before

  -- no row, no current
  pub current-none : (k b : ℕ) → ((t : ℕ) → t < k → row_of y t ≡ b → ⊥) → current_at k y v b ≡ Numbers.zero
  unfolding current_at
  current-none zero b h = refl
  current-none (suc k) b h = rw (ne_eqb b (row_of y k) (λ e. h k (le_refl (suc k)) (sym e))) (current-none k b (λ t p. h t (omega arith)))

-- ---- phasors

module _ (n : ℕ) (y : Triplets) (vm va : List Float) where
  pub v-at : (b : ℕ) → b < n → n ≤ 32 → at (phasors_of n y vm va).v b ≡ voltage_at vm va b
  unfolding phasors_of
  v-at b p few = voltages-at n vm va b p few

  pub v-past : (b : ℕ) → n ≤ b → b < 32 → at (phasors_of n y vm va).v b ≡ Numbers.zero
  unfolding phasors_of voltages_of
  v-past b p h = column-past n (voltage_at vm va) b p h

  pub i-at : (b : ℕ) → b < 32 → at (phasors_of n y vm va).i b ≡ current_at (length y.row) y (voltages_of n vm va) b
  unfolding phasors_of
  i-at b h = currents-at y (voltages_of n vm va) (length y.row) b h

  pub i-past : (b : ℕ) → GoodTriplets n y → n ≤ b → b < 32 → at (phasors_of n y vm va).i b ≡ Numbers.zero
  i-past b good p h = i-at b h ∙ current-none y (voltages_of n vm va) (length y.row) b (λ t l e. let r = good.rows_below t l in omega arith)

-- ---- powers

module _ (n : ℕ) (s : Phasors) (b : ℕ) where
  pub p-at : b < n → n ≤ 32 → get_or (injected_of n s).p b nan ≡ (power_at s b).re
  unfolding injected_of
  p-at p few = table_at n nought (λ k. (power_at s k).re) b nan p few

  pub q-at : b < n → n ≤ 32 → get_or (injected_of n s).q b nan ≡ (power_at s b).im
  unfolding injected_of
  q-at p few = table_at n nought (λ k. (power_at s k).im) b nan p few

  pub p-past : n ≤ b → b < 32 → get_or (injected_of n s).p b nan ≡ nought
  unfolding injected_of
  p-past p h = table-past n nought (λ k. (power_at s k).re) b nan p h

  pub q-past : n ≤ b → b < 32 → get_or (injected_of n s).q b nan ≡ nought
  unfolding injected_of
  q-past p h = table-past n nought (λ k. (power_at s k).im) b nan p h

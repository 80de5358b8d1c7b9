-- 02, Ask 3: "The list holds one diagonal entry per bus in bus order, summed from zero in branch order, then for each branch its from-to and to-from
-- entries": y_ff of a branch counts at its from, y_tt at its to. No two entries are merged, and a branch that is off is not skipped. At most
-- 32 + 2·64 = 160 entries.
pub mod Laws
use Rattle.std.specs.Prelude.{ℕ, zero, suc, ◌+◌, ◌*◌, ◌≤◌, Bool, cond, ◌≡◌, List, eqb, length, get_or, take, replicate}
use Rattle.std.specs.Float.{nan}
use Rattle.real.specs.Literals.{nought}
use Rattle.complex.specs.declared.Complex.{Complex}
use Rattle.complex.specs.Numbers as Numbers
use Rattle.complex.specs.Numbers.{complex, sum_of}
use Rattle.network.specs.Below.{Below}
use Rattle.network.specs.Network.{Branches, Triplets, triplets_of}
use Rattle.network.specs.Checks.{SizedBranches}
use Rattle.network.specs.BranchTable.{Values, BranchTable, SizedValues}
use Rattle.layout.specs.Table.{stores, table}
use Rattle.ybus.specs.declared.Branch.{Branch}
use Rattle.ybus.specs.declared.Admittance.{Admittance}
use Rattle.ybus.specs.declared.Parts.{Parts}
use Rattle.ybus.specs.declared.Entries.{Entries}
use Rattle.ybus.specs.Listed.{listed, onto, pairs}
use Rattle.ybus.specs.Branch.{from_of, to_of, branch_at, admittance_of, y_ff, y_ft, y_tf, y_tt}

-- at most 32 buses and 64 branches, columns of one length, ends below the bus count
pub record Fit (n : ℕ) (t : BranchTable) : Type 0 where
  pub few : n ≤ 32
  pub ends : SizedBranches t.ends
  pub values : SizedValues (length t.ends.from) t.values
  pub from_below : Below n t.ends.from
  pub to_below : Below n t.ends.to

-- ---- the list

-- x, and y added to it where the test holds
abbrev pub plus : Bool → Complex → Complex → Complex
plus here x y = cond here (sum_of x y) x

-- "summed from zero in branch order": the entry of bus b after the first k branches, which give ff at their from and tt at their to
unfoldable pub diagonal : ℕ → Branches → (ℕ → Complex) → (ℕ → Complex) → ℕ → Complex
diagonal zero ends ff tt b = Numbers.zero
diagonal (suc k) ends ff tt b = plus (eqb b (to_of ends k)) (plus (eqb b (from_of ends k)) (diagonal k ends ff tt b) (ff k)) (tt k)

-- after all of them
abbrev pub diagonal_of : BranchTable → ℕ → Complex
diagonal_of t b = diagonal (length t.ends.from) t.ends (λ e. y_ff (branch_at t.values e)) (λ e. y_tt (branch_at t.values e)) b

-- the list of n buses: row and column, real and imaginary part, of each bus, and of each branch's from-to entry and its to-from entry
unfoldable pub ybus_of : ℕ → BranchTable → Triplets
unfolding diagonal listed
ybus_of n t =
    let m = length t.ends.from in
    let x : ℕ → Branch = branch_at t.values in
    triplets_of (listed n (λ b. b) m (from_of t.ends) (to_of t.ends)) (listed n (λ b. b) m (to_of t.ends) (from_of t.ends))
    (listed n (λ b. (diagonal_of t b).re) m (λ e. (y_ft (x e)).re) (λ e. (y_tf (x e)).re))
    (listed n (λ b. (diagonal_of t b).im) m (λ e. (y_ft (x e)).im) (λ e. (y_tf (x e)).im))

-- a list in 160 places, z past it
abbrev pub places : {A : Type 0} → A → List A → List A
places z s = onto s (replicate 160 z)

-- and its columns so
unfoldable pub entries_of : ℕ → BranchTable → Entries
unfolding ybus_of
entries_of n t =
    let y = ybus_of n t in
    record { count = n + 2 * length t.ends.from; row = places 0 y.row; col = places 0 y.col; re = places nought y.re; im = places nought y.im }

-- what a caller is given: 160 places in each column, no more entries than those, and the list in the first of them
pub record Filled (y : Entries) : Type 0 where
  pub few : y.count ≤ 160
  pub row : length y.row ≡ 160
  pub col : length y.col ≡ 160
  pub re : length y.re ≡ 160
  pub im : length y.im ≡ 160

abbrev pub list_in : Entries → Triplets
list_in y = triplets_of (take y.count y.row) (take y.count y.col) (take y.count y.re) (take y.count y.im)

-- ---- the steps of the code

abbrev pub nothing : Admittance
nothing = record { ff = Numbers.zero; ft = Numbers.zero; tf = Numbers.zero; tt = Numbers.zero }

-- the admittances of each of m branches in 64 places
unfoldable pub admittances_of : ℕ → Values → List Admittance
admittances_of m v = stores (λ e. admittance_of (branch_at v e)) m (replicate 64 nothing)

-- number i of a list, and past its end NaNs, which are never read
abbrev pub sum_at : List Complex → ℕ → Complex
sum_at d i = get_or d i (complex nan nan)

abbrev pub admittance_at : List Admittance → ℕ → Admittance
admittance_at y e = get_or y e (record { ff = complex nan nan; ft = complex nan nan; tf = complex nan nan; tt = complex nan nan })

-- the diagonal entry of each of 32 buses, from the first k admittances
abbrev pub sums_to : ℕ → Branches → List Admittance → List Complex
sums_to k ends y = table 32 Numbers.zero (diagonal k ends (λ e. (admittance_at y e).ff) (λ e. (admittance_at y e).tt))

abbrev pub bus_column : ℕ → List ℕ → List ℕ → List ℕ
bus_column n a b = places 0 (listed n (λ i. i) (length a) (λ e. get_or a e 0) (λ e. get_or b e 0))

-- the sums of n buses, and the two entries of each of m branches after them
unfoldable pub diagonal_parts : ℕ → List Complex → Parts
diagonal_parts n d = record { re = stores (λ b. (sum_at d b).re) n (replicate 160 nought); im = stores (λ b. (sum_at d b).im) n (replicate 160 nought) }

unfoldable pub with_branches : ℕ → ℕ → List Admittance → Parts → Parts
with_branches n m y p =
    record {
      re = pairs n m (λ e. (admittance_at y e).ft.re) (λ e. (admittance_at y e).tf.re) p.re;
      im = pairs n m (λ e. (admittance_at y e).ft.im) (λ e. (admittance_at y e).tf.im) p.im;
    }

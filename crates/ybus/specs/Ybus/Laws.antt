-- The diagonals branch by branch; that the columns of the code are those of the list; what the list keeps. Assumes nothing.
use Prim.Native.Nat.{ℕ, zero, suc, ◌+◌, ◌*◌, ◌≤◌, ◌<◌}
use Rattle.std.specs.Prelude.{◌≡◌, Bool, true, false, cond, List, eqb, set, replicate, Float}
use Rattle.std.proofs.Math.Path.{refl, sym}
use Rattle.std.proofs.Common.{◌∙◌, le_refl, add-one, arith, eqb-true, ne_eqb, length-append, length-drop}
use Rattle.std.proofs.Math.ListN.{length, length-replicate}
use Rattle.std.proofs.Math.Seq.{take_at}
use Rattle.std.specs.Float.Ieee.{nan}
use Rattle.real.specs.Literals.{nought}
use Rattle.complex.specs.declared.Complex.{Complex}
use Rattle.complex.specs.Numbers as Numbers
use Rattle.complex.specs.Numbers.{sum_of}
use Rattle.network.specs.Below.{Below}
use Rattle.network.specs.Network.{Branches, Triplets}
use Rattle.network.specs.Checks.{SizedBranches}
use Rattle.network.specs.BranchTable.{Values, BranchTable}
use Rattle.layout.specs.Table.{table}
use Rattle.layout.specs.Table.Laws.{table_at, table-set, table_same, stores-ext, stores_at}
use Rattle.injections.specs.Injections.{GoodTriplets, row_of, col_of, entry_of}
use Rattle.ybus.specs.declared.Admittance.{Admittance}
use Rattle.ybus.specs.declared.Parts.{Parts}
use Rattle.ybus.specs.Branch.{from_of, to_of, branch_at, admittance_of, y_ft, y_tf}
use Rattle.ybus.specs.Listed.{listed}
use Rattle.ybus.specs.Listed.Laws.{Place, bus, first, second, place, length-listed, listed-bus, listed-first, listed-second, listed-ext, pairs_onto}
use Rattle.ybus.specs.Ybus.{Fit, plus, diagonal, diagonal_of, ybus_of, places, entries_of, Filled, list_in}
use Rattle.ybus.specs.Ybus.{nothing, admittances_of, sum_at, admittance_at, sums_to, bus_column, diagonal_parts, with_branches}

-- ---- sums in a table

-- x is added at place i
table-plus : (g : ℕ → Complex) (i : ℕ) (x : Complex) → i < 32
    → set (table 32 Numbers.zero g) i (sum_of (sum_at (table 32 Numbers.zero g) i) x) ≡ table 32 Numbers.zero (λ b. plus (eqb b i) (g b) x)
table-plus g i x h =
    rw (table_at 32 Numbers.zero g i _ h (le_refl 32))
    (table-set 32 Numbers.zero g i _ h (le_refl 32) ∙ stores-ext _ (λ b. plus (eqb b i) (g b) x) 32 (replicate 32 Numbers.zero) (λ b l. go b (eqb b i) refl))
  where
    go : (b : ℕ) (t : Bool) → eqb b i ≡ t → cond t (sum_of (g i) x) (g b) ≡ plus t (g b) x
    go b true e = rw (eqb-true b i e)
    go b false e = refl

module _ (ends : Branches) (y : List Admittance) where
  pub sums-begin : replicate 32 Numbers.zero ≡ sums_to 0 ends y
  unfolding diagonal
  sums-begin = sym (table_same 32 Numbers.zero)

  -- the two stores of a turn
  pub sums-turn : (k : ℕ) → from_of ends k < 32 → to_of ends k < 32 → (c d e : List Complex) → c ≡ sums_to k ends y
      → d ≡ set c (from_of ends k) (sum_of (sum_at c (from_of ends k)) (admittance_at y k).ff)
      → e ≡ set d (to_of ends k) (sum_of (sum_at d (to_of ends k)) (admittance_at y k).tt)
      → e ≡ sums_to (k + 1) ends y
  unfolding diagonal
  sums-turn k hf ht c d e o p q =
      q
      ∙ rw (p, o, table-plus (g k) (from_of ends k) (admittance_at y k).ff hf)
      (table-plus (λ b. plus (eqb b (from_of ends k)) (g k b) (admittance_at y k).ff) (to_of ends k) (admittance_at y k).tt ht ∙ more)
    where
      g : ℕ → ℕ → Complex
      g j = diagonal j ends (λ e. (admittance_at y e).ff) (λ e. (admittance_at y e).tt)

      more : table 32 Numbers.zero (λ b. plus (eqb b (to_of ends k)) (plus (eqb b (from_of ends k)) (g k b) (admittance_at y k).ff) (admittance_at y k).tt) ≡ sums_to (k + 1) ends y
      more = rw (add-one k)

-- only what the branches passed give counts
pub diagonal-ext : (k : ℕ) (ends : Branches) (f g s t : ℕ → Complex) (b : ℕ) → ((e : ℕ) → e < k → f e ≡ g e) → ((e : ℕ) → e < k → s e ≡ t e)
    → diagonal k ends f s b ≡ diagonal k ends g t b
unfolding diagonal
diagonal-ext zero ends f g s t b p q = refl
diagonal-ext (suc k) ends f g s t b p q =
    rw (diagonal-ext k ends f g s t b (λ e l. p e (omega arith)) (λ e l. q e (omega arith)), p k (omega arith), q k (omega arith))

-- a branch that has no end at a bus gives it nothing
pub diagonal-away : (k : ℕ) (ends : Branches) (f s : ℕ → Complex) (b : ℕ) → (from_of ends k ≡ b → ⊥) → (to_of ends k ≡ b → ⊥)
    → diagonal (suc k) ends f s b ≡ diagonal k ends f s b
unfolding diagonal
diagonal-away k ends f s b p q = rw (ne_eqb b (from_of ends k) (λ e. p (sym e)), ne_eqb b (to_of ends k) (λ e. q (sym e)))

-- ---- the columns of the code are those of the list

admittance_at_lem : (m : ℕ) (v : Values) (e : ℕ) → e < m → m ≤ 64 → admittance_at (admittances_of m v) e ≡ admittance_of (branch_at v e)
unfolding admittances_of
admittance_at_lem m v e p h = stores_at _ m (replicate 64 nothing) e _ p (rw length-replicate h)

module _ (n : ℕ) (t : BranchTable) (fit : Fit n t) where
  abbrev m : ℕ
  m = length t.ends.from

  abbrev y : List Admittance
  y = admittances_of m t.values

  sum-at : (b : ℕ) → b < n → sum_at (sums_to m t.ends y) b ≡ diagonal_of t b
  sum-at b h =
      let few = fit.few in
      let some = fit.ends.few in
      table_at 32 Numbers.zero (diagonal m t.ends (λ e. (admittance_at y e).ff) (λ e. (admittance_at y e).tt)) b _ (omega arith) (le_refl 32)
      ∙ diagonal-ext m t.ends _ _ _ _ b (λ e l. rw (admittance_at_lem m t.values e l some)) (λ e l. rw (admittance_at_lem m t.values e l some))

  -- a part of each number, its real one or its imaginary one
  parts_are : (part : Complex → Float) → listed n (λ b. part (sum_at (sums_to m t.ends y) b)) m (λ e. part (admittance_at y e).ft) (λ e. part (admittance_at y e).tf)
      ≡ listed n (λ b. part (diagonal_of t b)) m (λ e. part (y_ft (branch_at t.values e))) (λ e. part (y_tf (branch_at t.values e)))
  parts_are part =
      let at = admittance_at_lem m t.values in
      let some = fit.ends.few in
      listed-ext n _ _ m _ _ _ _ (λ b h. rw (sum-at b h)) (λ e h. rw (at e h some)) (λ e h. rw (at e h some))

  res-are : listed n (λ b. (sum_at (sums_to m t.ends y) b).re) m (λ e. (admittance_at y e).ft.re) (λ e. (admittance_at y e).tf.re) ≡ (ybus_of n t).re
  unfolding ybus_of
  res-are = parts_are (λ z. z.re)

  ims-are : listed n (λ b. (sum_at (sums_to m t.ends y) b).im) m (λ e. (admittance_at y e).ft.im) (λ e. (admittance_at y e).tf.im) ≡ (ybus_of n t).im
  unfolding ybus_of
  ims-are = parts_are (λ z. z.im)

  rows_are : listed n (λ i. i) m (from_of t.ends) (to_of t.ends) ≡ (ybus_of n t).row
  unfolding ybus_of
  rows_are = refl

  cols-are : listed n (λ i. i) (length t.ends.to) (to_of t.ends) (from_of t.ends) ≡ (ybus_of n t).col
  unfolding ybus_of
  cols-are = rw fit.ends.to

  -- as the code puts them together
  pub entries-are : (y : List Admittance) → y ≡ admittances_of (length t.values.g) t.values → (d : List Complex) → d ≡ sums_to m t.ends y
      → (row col : List ℕ) → row ≡ bus_column n t.ends.from t.ends.to → col ≡ bus_column n t.ends.to t.ends.from
      → (p q : Parts) → p ≡ diagonal_parts n d → q ≡ with_branches n m y p
      → record { count = n + 2 * m; row = row; col = col; re = q.re; im = q.im } ≡ entries_of n t
  unfolding entries_of diagonal_parts with_branches
  entries-are y ey d ed row col er ec p q ep eq =
      let few = fit.few in
      let some = fit.ends.few in
      let y-is : y ≡ admittances_of m t.values = ey ∙ rw fit.values.g in
      rw (
        er,
        ec,
        eq,
        ep,
        pairs_onto n (λ b. (sum_at d b).re) m (λ e. (admittance_at y e).ft.re) (λ e. (admittance_at y e).tf.re) (replicate 160 nought) (omega (arith, length-replicate 160 nought)),
        pairs_onto n (λ b. (sum_at d b).im) m (λ e. (admittance_at y e).ft.im) (λ e. (admittance_at y e).tf.im) (replicate 160 nought) (omega (arith, length-replicate 160 nought)),
        ed,
        y-is,
        rows_are,
        cols-are,
        res-are,
        ims-are,
      )

-- what the sums ask of the ends
pub fit-ends : {n : ℕ} {t : BranchTable} → Fit n t → SizedBranches t.ends × Below 32 t.ends.from × Below 32 t.ends.to
fit-ends fit =
    let few = fit.few in
    (fit.ends, λ i h. omega (arith, fit.from_below i h), λ i h. omega (arith, fit.to_below i h))

-- ---- what the list keeps

-- bus b has exactly one diagonal entry: at place b
pub record OneDiagonal (y : Triplets) (b : ℕ) : Type 0 where
  pub inside : b < length y.row
  pub row : row_of y b ≡ b
  pub col : col_of y b ≡ b
  pub only : (i : ℕ) → i < length y.row → row_of y i ≡ b → col_of y i ≡ b → i ≡ b

module _ (n : ℕ) (t : BranchTable) (fit : Fit n t) where
  abbrev list : Triplets
  list = ybus_of n t

  pub count-is : length list.row ≡ n + 2 * length t.ends.from
  unfolding ybus_of
  count-is = length-listed n _ _ _ (length t.ends.from)

  pub at_most : length list.row ≤ 160
  at_most = let e = count-is in let a = fit.few in let b = fit.ends.few in omega arith

  -- the entries: of bus b, and the two of branch k
  pub row-bus : (b : ℕ) → b < n → (row_of list b ≡ b) × (col_of list b ≡ b)
  unfolding ybus_of
  row-bus b h = (listed-bus n _ _ _ (length t.ends.from) b 0 h, listed-bus n _ _ _ (length t.ends.from) b 0 h)

  pub row_first : (k : ℕ) → k < length t.ends.from
      → (row_of list (n + 2 * k) ≡ from_of t.ends k) × (col_of list (n + 2 * k) ≡ to_of t.ends k)
  unfolding ybus_of
  row_first k h = (listed-first n _ _ _ (length t.ends.from) k 0 h, listed-first n _ _ _ (length t.ends.from) k 0 h)

  pub row-second : (k : ℕ) → k < length t.ends.from
      → (row_of list (n + 2 * k + 1) ≡ to_of t.ends k) × (col_of list (n + 2 * k + 1) ≡ from_of t.ends k)
  unfolding ybus_of
  row-second k h = (listed-second n _ _ _ (length t.ends.from) k 0 h, listed-second n _ _ _ (length t.ends.from) k 0 h)

  pub entry-bus : (b : ℕ) → b < n → entry_of list b ≡ diagonal_of t b
  unfolding ybus_of
  entry-bus b h =
      rw (
        listed-bus n (λ i. (diagonal_of t i).re) _ _ (length t.ends.from) b nan h,
        listed-bus n (λ i. (diagonal_of t i).im) _ _ (length t.ends.from) b nan h,
      )

  pub entry_first : (k : ℕ) → k < length t.ends.from → entry_of list (n + 2 * k) ≡ y_ft (branch_at t.values k)
  unfolding ybus_of
  entry_first k h =
      let v = t.values in
      rw (
        listed-first n _ (λ e. (y_ft (branch_at v e)).re) (λ e. (y_tf (branch_at v e)).re) (length t.ends.from) k nan h,
        listed-first n _ (λ e. (y_ft (branch_at v e)).im) (λ e. (y_tf (branch_at v e)).im) (length t.ends.from) k nan h,
      )

  pub entry-second : (k : ℕ) → k < length t.ends.from → entry_of list (n + 2 * k + 1) ≡ y_tf (branch_at t.values k)
  unfolding ybus_of
  entry-second k h =
      let v = t.values in
      rw (
        listed-second n _ (λ e. (y_ft (branch_at v e)).re) (λ e. (y_tf (branch_at v e)).re) (length t.ends.from) k nan h,
        listed-second n _ (λ e. (y_ft (branch_at v e)).im) (λ e. (y_tf (branch_at v e)).im) (length t.ends.from) k nan h,
      )

  -- a row and a column below n at each place
  ends-below : (i : ℕ) → Place n (length t.ends.from) i → (row_of list i < n) × (col_of list i < n)
  ends-below i (bus h) = let e = row-bus i h in (omega (arith, e.0), omega (arith, e.1))
  ends-below i (first k h e) =
      let p = row_first k h in
      let f = fit.from_below k h in
      let g = fit.to_below k (rw fit.ends.to h) in
      rw e (omega (arith, p.0), omega (arith, p.1))
  ends-below i (second k h e) =
      let p = row-second k h in
      let f = fit.from_below k h in
      let g = fit.to_below k (rw fit.ends.to h) in
      rw e (omega (arith, p.0), omega (arith, p.1))

  -- what the solve asks of a list
  pub list-good : GoodTriplets n list
  unfolding ybus_of
  list-good =
      let m = length t.ends.from in
      record {
        few = fit.few;
        cols = length-listed n _ _ _ m ∙ sym count-is;
        res = length-listed n _ _ _ m ∙ sym count-is;
        ims = length-listed n _ _ _ m ∙ sym count-is;
        rows_below = λ i h. (ends-below i (place n m i (rw count-is at h))).0;
        cols_below = λ i h. (ends-below i (place n m i (omega (arith, count-is, length-listed n (λ b. b) (to_of t.ends) (from_of t.ends) m)))).1;
      }

  -- where no branch joins a bus to itself, a place at which row and column are one bus is that bus's own
  only-diagonal : ((k : ℕ) → k < length t.ends.from → from_of t.ends k ≡ to_of t.ends k → ⊥)
      → (i b : ℕ) → i < length list.row → row_of list i ≡ b → col_of list i ≡ b → i ≡ b
  only-diagonal apart i b h er ec = go i (place n (length t.ends.from) i (rw count-is at h)) er ec
    where
      go : (i : ℕ) → Place n (length t.ends.from) i → row_of list i ≡ b → col_of list i ≡ b → i ≡ b
      go i (bus l) r c = sym (row-bus i l).0 ∙ r
      go i (first k l e) r c = absurd (apart k l (sym (row_first k l).0 ∙ rw e at r ∙ sym (rw e at c) ∙ (row_first k l).1))
      go i (second k l e) r c = absurd (apart k l (sym (row-second k l).1 ∙ rw e at c ∙ sym (rw e at r) ∙ (row-second k l).0))

  pub one-diagonal : ((k : ℕ) → k < length t.ends.from → from_of t.ends k ≡ to_of t.ends k → ⊥) → (b : ℕ) → b < n → OneDiagonal list b
  one-diagonal apart b h =
      record { inside = omega (arith, count-is); row = (row-bus b h).0; col = (row-bus b h).1; only = λ i. only-diagonal apart i b }

-- ---- what a caller of the building is given

module _ {n : ℕ} {t : BranchTable} (fit : Fit n t) where
  -- a column in 160 places
  in-places : {A : Type 0} (z : A) (s : List A) → length s ≡ length (ybus_of n t).row → length (places z s) ≡ 160
  in-places z s e = let few = at_most n t fit in simp (length-append, length-drop, length-replicate) (omega arith)

  pub entries-filled : Filled (entries_of n t)
  unfolding entries_of
  entries-filled =
      let good = list-good n t fit in
      let l = ybus_of n t in
      record {
        few = omega (arith, fit.few, fit.ends.few);
        row = in-places 0 l.row refl;
        col = in-places 0 l.col good.cols;
        re = in-places nought l.re good.res;
        im = in-places nought l.im good.ims;
      }

  pub entries-list : list_in (entries_of n t) ≡ ybus_of n t
  unfolding entries_of
  entries-list =
      let good = list-good n t fit in
      let size = count-is n t fit in
      let l = ybus_of n t in
      let k = n + 2 * length t.ends.from in
      rw (take_at l.row _ k size, take_at l.col _ k (good.cols ∙ size), take_at l.re _ k (good.res ∙ size), take_at l.im _ k (good.ims ∙ size))

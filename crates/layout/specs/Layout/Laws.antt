-- What the layout answers: the number at a bus, a kind comes back, the size, and that the columns are 0 .. dim - 1, each exactly once. Assumes nothing.
use Rattle.std.specs.Prelude.{ℕ, zero, suc, ◌+◌, ◌≤◌, ◌<◌, ◌≡◌, Bool, List, eqb, ltb}
use Rattle.std.proofs.Math.Path.{refl}
use Rattle.std.proofs.Common.{sym, ◌∙◌, arith, ne_eqb, ltb-true, ltb-false}
use Rattle.std.proofs.Math.Bool.{true, false, cond}
use Rattle.std.proofs.Math.Numerals.{add-one}
use Rattle.real.specs.Counting.{rising, strictly, once, growth, met}
use Rattle.layout.specs.declared.BusKind.{BusKind}
use Rattle.layout.specs.declared.BusKind.TheVariants.{Slack, Pv, Pq}
use Rattle.layout.specs.declared.Unknown.{Unknown}
use Rattle.layout.specs.declared.Unknown.TheVariants.{Angle, Magnitude}
use Rattle.layout.specs.declared.AcPfLayout.{AcPfLayout}
use Rattle.layout.specs.Table.Laws.{table_at}
use Rattle.layout.specs.Layout.{none, has, number, after, kind_of, count_to, number_at, first_of, layout_of, va_col, vm_col, kind_in}

-- ---- what stands at a bus

-- the column of an unknown
abbrev pub column_of : Unknown → AcPfLayout → ℕ → ℕ
column_of Angle l b = va_col l b
column_of Magnitude l b = vm_col l b

pub column-at : (u : Unknown) (n : ℕ) (kinds : List BusKind) (b : ℕ) → b < n → n ≤ 32 → column_of u (layout_of n kinds) b ≡ number_at u kinds (first_of u n kinds) b
unfolding layout_of
column-at Angle n kinds b p h = table_at n none (number_at Angle kinds (first_of Angle n kinds)) b 0 p h
column-at Magnitude n kinds b p h = table_at n none (number_at Magnitude kinds (first_of Magnitude n kinds)) b 0 p h

pub column-none : (u : Unknown) (n : ℕ) (kinds : List BusKind) (b : ℕ) → b < n → n ≤ 32 → has u (kind_of kinds b) ≡ false → column_of u (layout_of n kinds) b ≡ none
column-none u n kinds b p h e = column-at u n kinds b p h ∙ rw e

-- ---- counting

module _ (u : Unknown) (kinds : List BusKind) (first : ℕ) where
  abbrev counts : ℕ → ℕ
  counts k = count_to u kinds first k

  abbrev unknown : ℕ → Bool
  unknown b = has u (kind_of kinds b)

  count_turn : (k : ℕ) → counts (suc k) ≡ cond (unknown k) (suc (counts k)) (counts k)
  unfolding count_to
  count_turn k = go (unknown k)
    where
      go : (t : Bool) → after t (counts k) ≡ cond t (suc (counts k)) (counts k)
      go true = add-one (counts k)
      go false = refl

  pub count_none : count_to u kinds first 0 ≡ first
  unfolding count_to
  count_none = refl

  pub count-grows : (k : ℕ) → count_to u kinds first k ≤ first + k
  count-grows k = let a = growth counts unknown count_turn k in let e = count_none in omega arith

  pub count-rises : (k : ℕ) → first ≤ count_to u kinds first k
  count-rises k = let a = rising counts unknown count_turn 0 k (omega arith) in let e = count_none in omega arith

-- those counted from first on are those counted from 0 on, and first
count-from : (u : Unknown) (kinds : List BusKind) (first k : ℕ) → count_to u kinds first k ≡ first + count_to u kinds 0 k
unfolding count_to
count-from u kinds first zero = omega arith
count-from u kinds first (suc k) = go (has u (kind_of kinds k)) (count-from u kinds first k)
  where
    go : (t : Bool) → count_to u kinds first k ≡ first + count_to u kinds 0 k → after t (count_to u kinds first k) ≡ first + after t (count_to u kinds 0 k)
    go true e = omega arith
    go false e = e

-- ---- the size

pub dim-is : (n : ℕ) (kinds : List BusKind) → (layout_of n kinds).dim ≡ count_to Magnitude kinds (count_to Angle kinds 0 n) n
unfolding layout_of
dim-is n kinds = refl

-- the non-slack buses, and the Q buses
pub dim-counts : (n : ℕ) (kinds : List BusKind) → (layout_of n kinds).dim ≡ count_to Angle kinds 0 n + count_to Magnitude kinds 0 n
dim-counts n kinds = dim-is n kinds ∙ count-from Magnitude kinds (count_to Angle kinds 0 n) n

pub dim-most : (n : ℕ) (kinds : List BusKind) → n ≤ 32 → (layout_of n kinds).dim ≤ 64
dim-most n kinds h =
    let d = dim-is n kinds in
    let a = count-grows Angle kinds 0 n in
    let m = count-grows Magnitude kinds (count_to Angle kinds 0 n) n in
    omega arith

-- ---- each column exactly once

module _ (n : ℕ) (kinds : List BusKind) (few : n ≤ 32) where
  -- bus b has this unknown, and c is its column
  abbrev pub ColumnOf : Unknown → ℕ → ℕ → Type 0
  ColumnOf u c b = (b < n) × (has u (kind_of kinds b) ≡ true) × (column_of u (layout_of n kinds) b ≡ c)

  abbrev from : Unknown → ℕ
  from u = first_of u n kinds

  column-is : (u : Unknown) (b : ℕ) → b < n → has u (kind_of kinds b) ≡ true → column_of u (layout_of n kinds) b ≡ count_to u kinds (from u) b
  column-is u b p h = column-at u n kinds b p few ∙ rw h

  pub column-count : (u : Unknown) (c b : ℕ) → ColumnOf u c b → c ≡ count_to u kinds (first_of u n kinds) b
  column-count u c b w = sym w.2 ∙ column-is u b w.0 w.1

  -- from the first of its unknown to the last
  pub column-from : (u : Unknown) (c b : ℕ) → ColumnOf u c b → first_of u n kinds ≤ c
  column-from u c b w = rw (column-count u c b w) (count-rises u kinds (from u) b)

  pub column-before : (u : Unknown) (c b : ℕ) → ColumnOf u c b → c < count_to u kinds (first_of u n kinds) n
  column-before u c b w = rw (column-count u c b w) (strictly (counts u kinds (from u)) (unknown u kinds (from u)) (count_turn u kinds (from u)) b n w.1 w.0)

  pub column-below : (u : Unknown) (c b : ℕ) → ColumnOf u c b → c < (layout_of n kinds).dim
  column-below Angle c b w = omega (arith, column-before Angle c b w, dim-counts n kinds)
  column-below Magnitude c b w = rw (dim-is n kinds) (column-before Magnitude c b w)

  -- no column twice
  pub column-once : (u : Unknown) (c b d : ℕ) → ColumnOf u c b → ColumnOf u c d → b ≡ d
  column-once u c b d w v =
      once (counts u kinds (from u)) (unknown u kinds (from u)) (count_turn u kinds (from u)) b d w.1 v.1 (sym (column-count u c b w) ∙ column-count u c d v)

  pub never_both : (c b d : ℕ) → ColumnOf Angle c b → ColumnOf Magnitude c d → ⊥
  never_both c b d w v = let x = column-before Angle c b w in let y = column-from Magnitude c d v in omega arith

  -- and none left out
  met_by : (u : Unknown) (c : ℕ) → from u ≤ c → c < count_to u kinds (from u) n → (b : ℕ) × ColumnOf u c b
  met_by u c l h =
      let e = count_none u kinds (from u) in
      let w = met (counts u kinds (from u)) (unknown u kinds (from u)) (count_turn u kinds (from u)) n c (omega arith) h in
      (w.0, (w.1, w.2, column-is u w.0 w.1 w.2 ∙ w.3))

  pub columns-met : (c : ℕ) → c < (layout_of n kinds).dim → (u : Unknown) × (b : ℕ) × ColumnOf u c b
  columns-met c h = go (ltb c (from Magnitude)) refl
    where
      go : (t : Bool) → ltb c (from Magnitude) ≡ t → (u : Unknown) × (b : ℕ) × ColumnOf u c b
      go true e = let w = met_by Angle c (omega arith) (ltb-true c (from Magnitude) e) in (Angle, w.0, w.1)
      go false e = let w = met_by Magnitude c (ltb-false c (from Magnitude) e) (rw (← dim-is n kinds) h) in (Magnitude, w.0, w.1)

  -- a column that there is, is one of the matrix
  pub column-inside : (u : Unknown) (b : ℕ) → b < n → column_of u (layout_of n kinds) b < none → column_of u (layout_of n kinds) b < (layout_of n kinds).dim
  column-inside u b p h = go (has u (kind_of kinds b)) refl
    where
      go : (t : Bool) → has u (kind_of kinds b) ≡ t → column_of u (layout_of n kinds) b < (layout_of n kinds).dim
      go true e = column-below u _ b (p, e, refl)
      go false e = absurd (omega (arith, column-none u n kinds b p few e))

-- ---- the kind comes back

pub kind-back : (n : ℕ) (kinds : List BusKind) (b : ℕ) → b < n → n ≤ 32 → kind_in (layout_of n kinds) b ≡ kind_of kinds b
kind-back n kinds b p h = rw (column-at Angle n kinds b p h, column-at Magnitude n kinds b p h) (go (kind_of kinds b))
  where
    first : ℕ
    first = first_of Magnitude n kinds

    small : count_to Angle kinds 0 b ≡ none → ⊥
    small e = let a = count-grows Angle kinds 0 b in omega arith

    below : count_to Magnitude kinds first b ≡ none → ⊥
    below e =
        let a = count-grows Angle kinds 0 n in
        let m = count-grows Magnitude kinds first b in
        omega arith

    go : (k : BusKind)
        → cond (eqb (number (has Angle k) (count_to Angle kinds 0 b)) none) Slack (cond (eqb (number (has Magnitude k) (count_to Magnitude kinds first b)) none) Pv Pq) ≡ k
    go Slack = refl
    go Pv = rw (ne_eqb _ none small)
    go Pq = rw (ne_eqb _ none small, ne_eqb _ none below)

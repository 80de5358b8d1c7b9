-- The references as loops make them, by island and then by bus; and what they are. Assumes nothing.
use Rattle.std.specs.Prelude.{ℕ, zero, suc, ◌+◌, ◌≤◌, ◌<◌, ◌≡◌, refl, Bool, true, false, cond, List, eqb, length, get_or, set, replicate, Float, None, Some}
use Rattle.std.proofs.Math.Path.{sym}
use Rattle.std.proofs.Common.{ap, ◌∙◌, le_refl, arith}
use Rattle.std.proofs.Math.Numerals.{add-one}
use Rattle.real.specs.Tests.{no-case}
use Rattle.network.specs.Below.{Below}
use Rattle.layout.specs.Table.{table}
use Rattle.layout.specs.Table.Laws.{table_at, table-set, stores-ext, table_same}
use Rattle.islands.specs.Islands.{label_of, labels_of, label_table}
use Rattle.islands.specs.Islands.Laws.{labels-le}
use Rattle.islands.specs.Islands.Laws as Islands
use Rattle.starts.specs.References.{later_row, slack_of, slack_for, references_of, SlacksBelow}

-- ---- row by row, for any value of a row

module _ {A : Type 0} (slacks labels : List ℕ) (f : ℕ → A) (z : A) where
  abbrev label : ℕ → ℕ
  label b = get_or labels b 0

  pub rows-begin : replicate 32 z ≡ table 32 z (later_row 0 slacks label f z)
  unfolding later_row
  rows-begin = sym (table_same 32 z)

  pub rows_more : (k : ℕ) → label (get_or slacks k 0) < 32
      → set (table 32 z (later_row k slacks label f z)) (label (get_or slacks k 0)) (f k) ≡ table 32 z (later_row (k + 1) slacks label f z)
  unfolding later_row
  rows_more k below =
      table-set 32 z (later_row k slacks label f z) (label (get_or slacks k 0)) (f k) below (le_refl 32)
      ∙ rw add-one (stores-ext _ (later_row (suc k) slacks label f z) 32 (replicate 32 z) (λ b h. refl))

-- only the labels of slack buses count
rows_ext : {A : Type 0} (k : ℕ) (slacks : List ℕ) (f g : ℕ → ℕ) (x : ℕ → A) (z : A) (l : ℕ) → ((i : ℕ) → i < k → f (get_or slacks i 0) ≡ g (get_or slacks i 0))
    → later_row k slacks f x z l ≡ later_row k slacks g x z l
unfolding later_row
rows_ext zero slacks f g x z l h = refl
rows_ext (suc k) slacks f g x z l h = rw (rows_ext k slacks f g x z l (λ i p. h i (omega arith)), h k (omega arith))

-- ---- bus by bus, with the labels that dense_islands gives

module _ (n : ℕ) (slacks : List ℕ) (from to labels : List ℕ) (few : n ≤ 32) (below : Below n slacks) (el : labels ≡ label_table n (labels_of n from to)) where
  labelled : (b : ℕ) → b < n → get_or labels b 0 ≡ label_of from to b
  labelled b h = rw el (Islands.table_at n from to b h)

  pub label_small : (b : ℕ) → b < n → get_or labels b 0 < 32
  label_small b h = rw (labelled b h) (let l = labels-le from to b in omega arith)

  pub row_at : {A : Type 0} (f : ℕ → A) (z d : A) (b : ℕ) → b < n
      → get_or (table 32 z (later_row (length slacks) slacks (λ i. get_or labels i 0) f z)) (get_or labels b 0) d ≡ later_row (length slacks) slacks (label_of from to) f z (label_of from to b)
  row_at f z d b h =
      table_at 32 z _ (get_or labels b 0) d (label_small b h) (le_refl 32)
      ∙ rows_ext (length slacks) slacks (λ i. get_or labels i 0) (label_of from to) f z (get_or labels b 0) (λ i p. labelled (get_or slacks i 0) (below i p))
      ∙ ap (later_row (length slacks) slacks (label_of from to) f z) (labelled b h)

-- ---- a slack is one of the rows'

one_of : (k n : ℕ) (slacks : List ℕ) (label : ℕ → ℕ) (l s : ℕ) → ((i : ℕ) → i < k → get_or slacks i 0 < n) → slack_of k slacks label l ≡ Some s → s < n
unfolding later_row
one_of zero n slacks label l s h p = no-case cc
one_of (suc k) n slacks label l s h p = go (eqb l (label (get_or slacks k 0))) p (one_of k n slacks label l s (λ i q. h i (omega arith)))
  where
    go : (t : Bool) → cond t (Some (get_or slacks k 0)) (slack_of k slacks label l) ≡ Some s → (slack_of k slacks label l ≡ Some s → s < n) → s < n
    go true q r = let e : get_or slacks k 0 ≡ s = cc in omega (arith, h k (omega arith))
    go false q r = r q

pub references-slacks : (n : ℕ) (slacks : List ℕ) (angles : List Float) (from to : List ℕ) → n ≤ 32 → Below n slacks
    → SlacksBelow n (references_of n slacks angles from to)
unfolding references_of
references-slacks n slacks angles from to few below b s h e =
    one_of (length slacks) n slacks (label_of from to) (label_of from to b) s below (sym (table_at n None (slack_for slacks from to) b None h few) ∙ e)

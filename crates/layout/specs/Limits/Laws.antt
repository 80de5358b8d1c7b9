-- The sums as a loop over the generators makes them; and that another bus's generators don't matter to a bus. Assumes nothing.
use Rattle.std.specs.Prelude.{ℕ, zero, suc, ◌+◌, ◌<◌, ◌≡◌, Bool, ◌||◌, List, ◌⊎◌, length, get_or, set, replicate, Float}
use Rattle.std.proofs.Math.Path.{refl}
use Rattle.std.proofs.Common.{sym, ◌∙◌, inl, inr, le_refl, arith, eqb-true, ne_eqb}
use Rattle.std.proofs.Math.Bool.{true, false, cond}
use Rattle.std.proofs.Math.Numerals.{add-one}
use Rattle.std.proofs.Math.Dec.{eqb}
use Rattle.std.specs.Float.Ieee.{nan, binary64, add}
use Rattle.real.specs.Literals.{nought}
use Rattle.real.specs.Any.{any_below}
use Rattle.layout.specs.Table.{table}
use Rattle.layout.specs.Table.Laws.{table_at, table-set, stores-ext, table_same}
use Rattle.layout.specs.Limits.{sum_at, limits_of}
use Rattle.layout.specs.Kinds.{listed}

-- ---- generator by generator

also : (a b : Bool) → cond a true b ≡ (b || a)
also true true = refl
also true false = refl
also false true = refl
also false false = refl

module _ (buses : List ℕ) (k : ℕ) (below : get_or buses k 0 < 32) where
  pub sums-more : (q : List Float)
      → set (table 32 nought (sum_at k buses q)) (get_or buses k 0) (add binary64 (get_or (table 32 nought (sum_at k buses q)) (get_or buses k 0) nan) (get_or q k nan)) ≡ table 32 nought (sum_at (k + 1) buses q)
  unfolding sum_at
  sums-more q =
      rw (table_at 32 nought (sum_at k buses q) (get_or buses k 0) nan below (le_refl 32))
      (table-set 32 nought (sum_at k buses q) (get_or buses k 0) _ below (le_refl 32)
      ∙ rw add-one (stores-ext _ (sum_at (suc k) buses q) 32 (replicate 32 nought) (λ b h. go b (eqb b (get_or buses k 0)) refl)))
    where
      go : (b : ℕ) (t : Bool) → eqb b (get_or buses k 0) ≡ t
          → cond t (add binary64 (sum_at k buses q (get_or buses k 0)) (get_or q k nan)) (sum_at k buses q b) ≡ cond t (add binary64 (sum_at k buses q b) (get_or q k nan)) (sum_at k buses q b)
      go b true e = rw (eqb-true b (get_or buses k 0) e)
      go b false e = refl

  pub gens-more : set (table 32 false (listed k buses)) (get_or buses k 0) true ≡ table 32 false (listed (k + 1) buses)
  unfolding any_below
  gens-more =
      table-set 32 false (listed k buses) (get_or buses k 0) true below (le_refl 32)
      ∙ rw add-one (stores-ext _ (listed (suc k) buses) 32 (replicate 32 false) (λ b h. also (eqb b (get_or buses k 0)) (listed k buses b)))

-- before the first generator
pub sums-begin : (buses : List ℕ) (q : List Float) → replicate 32 nought ≡ table 32 nought (sum_at 0 buses q)
unfolding sum_at
sums-begin buses q = sym (table_same 32 nought)

pub gens-begin : (buses : List ℕ) → replicate 32 false ≡ table 32 false (listed 0 buses)
unfolding any_below
gens-begin buses = sym (table_same 32 false)

-- ---- what a bus reads

pub qmin-at : (buses : List ℕ) (qmin qmax : List Float) (b : ℕ) → b < 32 → get_or (limits_of buses qmin qmax).qmin b nan ≡ sum_at (length buses) buses qmin b
unfolding limits_of
qmin-at buses qmin qmax b h = table_at 32 nought (sum_at (length buses) buses qmin) b nan h (le_refl 32)

pub qmax-at : (buses : List ℕ) (qmin qmax : List Float) (b : ℕ) → b < 32 → get_or (limits_of buses qmin qmax).qmax b nan ≡ sum_at (length buses) buses qmax b
unfolding limits_of
qmax-at buses qmin qmax b h = table_at 32 nought (sum_at (length buses) buses qmax) b nan h (le_refl 32)

-- demand 3 at this level: values at other buses' generators don't matter to a bus
pub sum-unread : (k : ℕ) (buses : List ℕ) (q p : List Float) (b : ℕ) → ((g : ℕ) → g < k → (get_or buses g 0 ≡ b → ⊥) ⊎ (get_or q g nan ≡ get_or p g nan))
    → sum_at k buses q b ≡ sum_at k buses p b
unfolding sum_at
sum-unread zero buses q p b h = refl
sum-unread (suc k) buses q p b h = go (h k (omega arith)) (sum-unread k buses q p b (λ g l. h g (omega arith)))
  where
    go : (get_or buses k 0 ≡ b → ⊥) ⊎ (get_or q k nan ≡ get_or p k nan) → sum_at k buses q b ≡ sum_at k buses p b
        → cond (eqb b (get_or buses k 0)) (add binary64 (sum_at k buses q b) (get_or q k nan)) (sum_at k buses q b) ≡ cond (eqb b (get_or buses k 0)) (add binary64 (sum_at k buses p b) (get_or p k nan)) (sum_at k buses p b)
    go (inl n) e = rw (ne_eqb b (get_or buses k 0) (λ s. n (sym s))) e
    go (inr v) e = rw (e, v)

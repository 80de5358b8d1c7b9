-- What the inner functions hand each other; dense_islands' own contract speaks of none of it. The table of parents: a bus points at the one above it, a root
-- at itself.
pub mod Laws
use Rattle.std.specs.Prelude.{ℕ, ◌+◌, ◌<◌, ◌≡◌, cond, List, length, get_or, set, Some, None, is_none}
use Rattle.islands.specs.declared.Labels.{Labels}
use Rattle.islands.specs.Islands.{moved}

-- each of the 32 buses has its root, and its rank falls with each step up, so that every way up ends
pub record Forest (rank root : ℕ → ℕ) (parent : List ℕ) : Type 0 where
  pub size : length parent ≡ 32
  pub within : (i : ℕ) → i < 32 → get_or parent i 0 < 32
  pub falls : (i : ℕ) → i < 32 → (get_or parent i 0 ≡ i → ⊥) → rank (get_or parent i 0) < rank i
  pub along : (i : ℕ) → i < 32 → root (get_or parent i 0) ≡ root i
  pub top : (i : ℕ) → i < 32 → get_or parent i 0 ≡ i → root i ≡ i
  pub inside : (i : ℕ) → i < 32 → root i < 32
  pub stands : (i : ℕ) → i < 32 → get_or parent (root i) 0 ≡ root i

-- the table is such a forest
abbrev pub Grown : List ℕ → Type 0
Grown parent = (rank : ℕ → ℕ) × (root : ℕ → ℕ) × Forest rank root parent

-- the roots once the tree of b hangs below the root of a
abbrev pub joined_root : (ℕ → ℕ) → ℕ → ℕ → ℕ → ℕ
joined_root root a b i = moved (root a) (root b) (root i)

-- a root without a label takes the next one
abbrev pub or_insert : Labels → ℕ → Labels
or_insert l root = cond (is_none (get_or l.of root None)) (record { of = set l.of root (Some l.next); next = l.next + 1 }) l

-- 01, "References": islands are numbered by first bus. First what that means, then the labels worked out; Islands/Laws.antt shows that they are the ones
-- meant. Line k runs from bus from[k] to bus to[k].
pub mod Laws
use Rattle.std.specs.Prelude.{ℕ, zero, suc, ◌<◌, ◌-◌, ◌≡◌, ◌↔◌, Bool, cond, List, ◌++◌, length, get_or, replicate, eqb}
use Rattle.real.specs.Each.{each}

-- ---- the meaning

-- the first m lines link two buses: those at the ends of a line, a bus to itself, either way round, and through a third
pub data Linked (m : ℕ) (from to : List ℕ) : ℕ → ℕ → Type 0 where
  line : (k : ℕ) → k < m → Linked m from to (get_or from k 0) (get_or to k 0)
  self : (i : ℕ) → Linked m from to i i
  back : {i j : ℕ} → Linked m from to i j → Linked m from to j i
  via : {i j k : ℕ} → Linked m from to i j → Linked m from to j k → Linked m from to i k

-- two buses are in one island when the lines join them
abbrev pub Joined : List ℕ → List ℕ → ℕ → ℕ → Type 0
Joined from to = Linked (length from) from to

-- f is the first bus of its island
abbrev pub First : List ℕ → List ℕ → ℕ → Type 0
First from to f = (j : ℕ) → j < f → Joined from to j f → ⊥

-- c islands have their first bus below k
pub data Firsts (from to : List ℕ) : ℕ → ℕ → Type 0 where
  none : Firsts from to 0 0
  one : {k c : ℕ} → First from to k → Firsts from to k c → Firsts from to (suc k) (suc c)
  other : {k c : ℕ} → (First from to k → ⊥) → Firsts from to k c → Firsts from to (suc k) c

-- the labels of n buses: one to an island, and the number of islands whose first bus stands before the first bus f of its own
pub record Labelled (n : ℕ) (from to : List ℕ) (label : ℕ → ℕ) : Type 0 where
  pub same : (i j : ℕ) → i < n → j < n → (label i ≡ label j) ↔ Joined from to i j
  pub counts : (i f : ℕ) → i < n → Joined from to i f → First from to f → Firsts from to f (label i)

-- the ends of each line are among the n buses
pub record Ends (n : ℕ) (from to : List ℕ) : Type 0 where
  pub paired : length from ≡ length to
  pub below : (k : ℕ) → k < length from → (get_or from k 0 < n) × (get_or to k 0 < n)

-- ---- the labels, worked out

-- what becomes of group c when group b moves to group a
abbrev pub moved : ℕ → ℕ → ℕ → ℕ
moved a b c = cond (eqb c b) a c

-- the group of each bus after the first k lines: at first its own number; then each line moves the group of its `to` to that of its `from`
unfoldable pub group_of : ℕ → List ℕ → List ℕ → ℕ → ℕ
group_of zero from to = λ i. i
group_of (suc k) from to =
    let g = group_of k from to in
    let a = g (get_or from k 0) in
    let b = g (get_or to k 0) in
    λ i. moved a b (g i)

-- the group of each bus after all lines
abbrev pub island_of : List ℕ → List ℕ → ℕ → ℕ
island_of from to = group_of (length from) from to

-- the lowest bus below k in group c, or f where there is none
unfoldable pub lowest : (ℕ → ℕ) → ℕ → ℕ → ℕ → ℕ
lowest g c zero f = f
lowest g c (suc k) f = lowest g c k (cond (eqb (g k) c) k f)

-- the first bus of i's group
abbrev pub first_of : (ℕ → ℕ) → ℕ → ℕ
first_of g i = lowest g (g i) i i

-- how many numbers below k pass the test
unfoldable pub tally : (ℕ → Bool) → ℕ → ℕ
tally t zero = 0
tally t (suc k) = let c = tally t k in cond (t k) (suc c) c

-- whether bus k is the first of its group
abbrev pub is_first : (ℕ → ℕ) → ℕ → Bool
is_first g k = eqb (first_of g k) k

-- the label of bus i, under these groups
abbrev pub label_by : (ℕ → ℕ) → ℕ → ℕ
label_by g i = tally (is_first g) (first_of g i)

-- the label of each bus
abbrev pub label_of : List ℕ → List ℕ → ℕ → ℕ
label_of from to = label_by (island_of from to)

-- the labels of n buses, in bus order
unfoldable pub labels_of : ℕ → List ℕ → List ℕ → List ℕ
unfolding each
labels_of n from to = let g = island_of from to in each n (label_by g)

-- n labels in a table of 32; places past n are 0
abbrev pub label_table : ℕ → List ℕ → List ℕ
label_table n l = l ++ replicate (32 - n) 0

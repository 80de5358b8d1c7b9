-- The labels that labels_of works out are those that 01 means, and no others are. Assumes nothing.
use Prim.Native.Nat.{ℕ, zero, suc, ◌+◌, ◌-◌, ◌≤◌, ◌<◌}
use Rattle.std.specs.Prelude.{◌≡◌, ◌↔◌, true, false, cond, List, length, set, replicate, eqb}
use Rattle.std.proofs.Math.Path.{refl, sym, ap}
use Rattle.std.proofs.Common.{◌∙◌, ⊎_elim, true≢false, append_assoc, not-suc-le-zero, eq-or-lt_of_le, add-one, eqb-true, eq-eqb, ne_eqb}
use Rattle.std.proofs.Math.Bool.{Bool}
use native.Mathlib.Omega.{arith}
use Rattle.std.proofs.lemmas.Bool.{eqb-false}
use Rattle.std.proofs.Math.ListN.{get_or, get_or-append}
use Rattle.std.proofs.lemmas.List.{set_at}
use Rattle.real.specs.Tests.{same_or_not, below_or, same-or-below}
use Rattle.real.specs.Counting.{counted, rising, strictly, growth, met}
use Rattle.real.specs.Each.{each}
use Rattle.real.specs.Each.Laws.{length-each, each_at, is-each}
use Rattle.islands.specs.Islands.{Linked, line, self, back, via, Joined, First, Firsts, none, one, other}
use Rattle.islands.specs.Islands.{Labelled, moved, group_of, island_of, lowest, first_of, tally, is_first, label_by, label_of, labels_of, label_table}

pub moved-met : (a b c : ℕ) → c ≡ b → moved a b c ≡ a
moved-met a b c e = rw (eq-eqb c b e)

pub moved_other : (a b c : ℕ) → (c ≡ b → ⊥) → moved a b c ≡ c
moved_other a b c h = rw (ne_eqb c b h)

moved-both : (a b : ℕ) → moved a b a ≡ moved a b b
moved-both a b = ⊎_elim (ap (moved a b)) (λ n. moved_other a b a n ∙ sym (moved-met a b b refl)) (same_or_not a b)

-- ---- one group is one island

module _ (from to : List ℕ) where
  group-turn : (k i : ℕ) → group_of (suc k) from to i ≡ moved (group_of k from to (get_or from k 0)) (group_of k from to (get_or to k 0)) (group_of k from to i)
  unfolding group_of
  group-turn k i = refl

  -- a line more parts no buses
  more : {m i j : ℕ} → Linked m from to i j → Linked (suc m) from to i j
  more (line k h) = line k (omega arith)
  more (self i) = self i
  more (back d) = back (more d)
  more (via d e) = via (more d) (more e)

  name-turn : (m : ℕ) → ((i : ℕ) → Linked m from to i (group_of m from to i)) → (i : ℕ) → Linked (suc m) from to i (group_of (suc m) from to i)
  name-turn m so i = rw group-turn (⊎_elim moves stays (same_or_not (g i) (g (get_or to m 0))))
    where
      g : ℕ → ℕ
      g = group_of m from to

      a : ℕ
      a = g (get_or from m 0)

      b : ℕ
      b = g (get_or to m 0)

      moves : g i ≡ b → Linked (suc m) from to i (moved a b (g i))
      moves e =
          rw (moved-met a b (g i) e)
          (via (rw e at (more (so i))) (via (back (more (so (get_or to m 0)))) (via (back (line m (omega arith))) (more (so (get_or from m 0))))))

      stays : (g i ≡ b → ⊥) → Linked (suc m) from to i (moved a b (g i))
      stays h = rw (moved_other a b (g i) h) (more (so i))

  -- a bus is joined to the bus that its group is named by
  named : (m i : ℕ) → Linked m from to i (group_of m from to i)
  unfolding group_of
  named zero i = self i
  named (suc m) i = name-turn m (named m) i

  line-groups : (m k : ℕ) → k < m → group_of m from to (get_or from k 0) ≡ group_of m from to (get_or to k 0)
  line-groups zero k h = absurd (not-suc-le-zero h)
  line-groups (suc m) k h =
      rw (group-turn m (get_or from k 0), group-turn m (get_or to k 0))
      (⊎_elim (λ e. rw e (moved-both (group_of m from to (get_or from m 0)) (group_of m from to (get_or to m 0)))) (λ l. ap (moved _ _) (line-groups m k l))
      (same-or-below h))

  pub linked-group : {m i j : ℕ} → Linked m from to i j → group_of m from to i ≡ group_of m from to j
  linked-group {m} (line k h) = line-groups m k h
  linked-group (self i) = refl
  linked-group (back d) = sym (linked-group d)
  linked-group (via d e) = linked-group d ∙ linked-group e

  pub group-linked : (m i j : ℕ) → group_of m from to i ≡ group_of m from to j → Linked m from to i j
  group-linked m i j e = via (rw e at (named m i)) (back (named m j))

-- ---- counting

module _ (t : ℕ → Bool) where
  tally-turn : (k : ℕ) → tally t (suc k) ≡ cond (t k) (suc (tally t k)) (tally t k)
  unfolding tally
  tally-turn k = refl

  none-counted : tally t 0 ≡ 0
  unfolding tally
  none-counted = refl

  pub tally-yes : (k : ℕ) → t k ≡ true → tally t (suc k) ≡ suc (tally t k)
  tally-yes = counted (tally t) t tally-turn

  pub tally-no : (k : ℕ) → t k ≡ false → tally t (suc k) ≡ tally t k
  tally-no k e = tally-turn k ∙ rw e

  pub tally-le : (k : ℕ) → tally t k ≤ k
  tally-le k = omega (arith, growth (tally t) t tally-turn k, none-counted)

-- where t passes whenever s does, a count is as far ahead after one number more
module _ (s t : ℕ → Bool) (h : (j : ℕ) → s j ≡ true → t j ≡ true) where
  ahead-turn : (d k : ℕ) → tally s k + d ≤ tally t k → tally s (suc k) + d ≤ tally t (suc k)
  ahead-turn d k r = go (s k) refl
    where
      go : (b : Bool) → s k ≡ b → tally s (suc k) + d ≤ tally t (suc k)
      go true e = omega (arith, tally-yes s k e, tally-yes t k (h k e))
      go false e = omega (arith, tally-no s k e, rising (tally t) t (tally-turn t) k (suc k) (omega arith))

  tally-more : (k : ℕ) → tally s k + 0 ≤ tally t k
  unfolding tally
  tally-more zero = omega arith
  tally-more (suc k) = ahead-turn 0 k (tally-more k)

  ahead : (k j : ℕ) → j < k → s j ≡ false → t j ≡ true → tally s k + 1 ≤ tally t k
  ahead zero j l e f = absurd (not-suc-le-zero l)
  ahead (suc k) j l e f =
      ⊎_elim (λ p. omega (arith, tally-more k, tally-no s k (rw p at e), tally-yes t k (rw p at f))) (λ q. ahead-turn 1 k (ahead k j q e f))
      (same-or-below l)

  pub tally-strict : (k j : ℕ) → j < k → s j ≡ false → t j ≡ true → tally s k < tally t k
  tally-strict k j l e f = let r = ahead k j l e f in omega arith

-- ---- the first bus of a group

-- f is the first bus of group c
record Low (g : ℕ → ℕ) (c f : ℕ) : Type 0 where
  holds : g f ≡ c
  before : (j : ℕ) → j < f → g j ≡ c → ⊥

low-unique : (g : ℕ → ℕ) (c e f : ℕ) → Low g c e → Low g c f → e ≡ f
low-unique g c e f p q =
    ⊎_elim (λ l. absurd (q.before e l p.holds))
    (λ r. ⊎_elim (λ s. sym s) (λ l. absurd (p.before f l q.holds)) (eq-or-lt_of_le r))
    (below_or e f)

lowest-is : (g : ℕ → ℕ) (c k f : ℕ) → k ≤ f → g f ≡ c → ((j : ℕ) → k ≤ j → j < f → g j ≡ c → ⊥) → Low g c (lowest g c k f) × (lowest g c k f ≤ f)
unfolding lowest
lowest-is g c zero f l e h = (record { holds = e; before = λ j. h j (omega arith) }, omega arith)
lowest-is g c (suc k) f l e h = go (eqb (g k) c) refl (lowest-is g c k)
  where
    go : (b : Bool) → eqb (g k) c ≡ b
        → ((d : ℕ) → k ≤ d → g d ≡ c → ((j : ℕ) → k ≤ j → j < d → g j ≡ c → ⊥) → Low g c (lowest g c k d) × (lowest g c k d ≤ d))
        → Low g c (lowest g c k (cond (eqb (g k) c) k f)) × (lowest g c k (cond (eqb (g k) c) k f) ≤ f)
    go true p so = rw p (let r = so k (omega arith) (eqb-true (g k) c p) (λ j a b. absurd (let z : ⊥ = omega arith in z)) in (r.0, omega (arith, r.1)))
    go false p so =
        rw p
        (so f (omega arith) e
        (λ j a b q. ⊎_elim (λ s. eqb-false (g k) c p (rw (← s) at q)) (λ s. h j s b q) (eq-or-lt_of_le a)))

module _ (g : ℕ → ℕ) where
  first-low : (i : ℕ) → Low g (g i) (first_of g i) × (first_of g i ≤ i)
  first-low i = lowest-is g (g i) i i (omega arith) refl (λ j a b. absurd (let z : ⊥ = omega arith in z))

  first-is : (i f : ℕ) → Low g (g i) f → first_of g i ≡ f
  first-is i f p = low-unique g (g i) (first_of g i) f (first-low i).0 p

  pub first_group : (i : ℕ) → g (first_of g i) ≡ g i
  first_group i = (first-low i).0.holds

  pub first-before : (i j : ℕ) → j < first_of g i → g j ≡ g i → ⊥
  first-before i = (first-low i).0.before

  pub first-le : (i : ℕ) → first_of g i ≤ i
  first-le i = (first-low i).1

  first-same : (i j : ℕ) → g i ≡ g j → first_of g i ≡ first_of g j
  first-same i j e = first-is i (first_of g j) (rw e (first-low j).0)

  -- the first bus of a group is its own
  first-first : (i : ℕ) → is_first g (first_of g i) ≡ true
  first-first i = eq-eqb _ _ (first-same (first_of g i) i (first_group i))

  pub label_same : (i j : ℕ) → g i ≡ g j → label_by g i ≡ label_by g j
  label_same i j e = ap (tally (is_first g)) (first-same i j e)

  -- labels rise with the first buses
  label-order : (i j : ℕ) → first_of g i < first_of g j → label_by g i < label_by g j
  label-order i j = strictly (tally (is_first g)) (is_first g) (tally-turn (is_first g)) (first_of g i) (first_of g j) (first-first i)

  label-apart : (i j : ℕ) → label_by g i ≡ label_by g j → g i ≡ g j
  label-apart i j e =
      ⊎_elim (λ l. absurd (let h = label-order i j l in let z : ⊥ = omega arith in z))
      (λ r. ⊎_elim (λ p. sym (first_group i) ∙ ap g (sym p) ∙ first_group j) (λ l. absurd (let h = label-order j i l in let z : ⊥ = omega arith in z)) (eq-or-lt_of_le r))
      (below_or (first_of g i) (first_of g j))

  pub label-le : (i : ℕ) → label_by g i ≤ i
  label-le i = omega (arith, tally-le (is_first g) (first_of g i), first-le i)

  label-met : (n l : ℕ) → l < tally (is_first g) n → (i : ℕ) × (i < n) × (label_by g i ≡ l)
  label-met n l h =
      let w = met (tally (is_first g)) (is_first g) (tally-turn (is_first g)) n l (omega (arith, none-counted (is_first g))) h in
      (w.0, w.1, ap (tally (is_first g)) (eqb-true _ _ w.2) ∙ w.3)

-- ---- the meaning

module _ (from to : List ℕ) where
  first-means : (k : ℕ) → is_first (island_of from to) k ≡ true → First from to k
  first-means k e j l d = (first-low (island_of from to) k).0.before j (omega (arith, eqb-true (first_of (island_of from to) k) k e)) (linked-group from to d)

  means-first : (k : ℕ) → First from to k → is_first (island_of from to) k ≡ true
  means-first k p = eq-eqb _ _ (first-is (island_of from to) k k (record { holds = refl; before = λ j l e. p j l (group-linked from to (length from) j k e) }))

  none-means : (k : ℕ) → (First from to k → ⊥) → is_first (island_of from to) k ≡ false
  none-means k h = go (is_first (island_of from to) k) refl
    where
      go : (b : Bool) → is_first (island_of from to) k ≡ b → is_first (island_of from to) k ≡ false
      go true e = absurd (h (first-means k e))
      go false e = e

  firsts-are : {k c : ℕ} → Firsts from to k c → c ≡ tally (is_first (island_of from to)) k
  unfolding tally
  firsts-are none = refl
  firsts-are (one {k = k} p r) = ap suc (firsts-are r) ∙ sym (tally-yes (is_first (island_of from to)) k (means-first k p))
  firsts-are (other {k = k} h r) = firsts-are r ∙ sym (tally-no (is_first (island_of from to)) k (none-means k h))

  tally-firsts : (k : ℕ) → Firsts from to k (tally (is_first (island_of from to)) k)
  unfolding tally
  tally-firsts zero = none
  tally-firsts (suc k) = go (is_first (island_of from to) k) refl (tally-firsts k)
    where
      t : ℕ → Bool
      t = is_first (island_of from to)

      go : (b : Bool) → is_first (island_of from to) k ≡ b → Firsts from to k (tally t k) → Firsts from to (suc k) (tally t (suc k))
      go true e r = rw (tally-yes t k e) (one (first-means k e) r)
      go false e r = rw (tally-no t k e) (other (λ p. true≢false (sym (means-first k p) ∙ e)) r)

  -- one label to an island
  pub labels-same : (i j : ℕ) → (label_of from to i ≡ label_of from to j) ↔ Joined from to i j
  labels-same i j =
      (λ e. group-linked from to (length from) i j (label-apart (island_of from to) i j e), λ d. label_same (island_of from to) i j (linked-group from to d))

  -- a label counts the islands whose first bus stands before that of its own
  pub labels-count : (i f : ℕ) → Joined from to i f → First from to f → Firsts from to f (label_of from to i)
  labels-count i f d p = rw e (tally-firsts f)
    where
      low : Low (island_of from to) (island_of from to i) f
      low = record { holds = sym (linked-group from to d); before = λ j l q. p j l (group-linked from to (length from) j f (q ∙ linked-group from to d)) }

      e : first_of (island_of from to) i ≡ f
      e = first-is (island_of from to) i f low

  pub labels-mean : (n : ℕ) → Labelled n from to (label_of from to)
  labels-mean n = record { same = λ i j h l. labels-same i j; counts = λ i f h. labels-count i f }

  -- no labels but these are meant
  pub labels-unique : (n : ℕ) (a b : ℕ → ℕ) → Labelled n from to a → Labelled n from to b → (i : ℕ) → i < n → a i ≡ b i
  labels-unique n a b p q i h =
      let f = first_of (island_of from to) i in
      let d = group-linked from to (length from) i f (sym (first_group (island_of from to) i)) in
      let u = first-means f (first-first (island_of from to) i) in
      firsts-are (p.counts i f h d u) ∙ sym (firsts-are (q.counts i f h d u))

  -- a label is at most the number of its bus
  pub labels-le : (i : ℕ) → label_of from to i ≤ i
  labels-le = label-le (island_of from to)

  -- of n buses with c islands each label is below c ..
  pub labels-below : (n c i : ℕ) → Firsts from to n c → i < n → label_of from to i < c
  labels-below n c i r h =
      let g = island_of from to in
      rw (firsts-are r) (strictly (tally (is_first g)) (is_first g) (tally-turn (is_first g)) (first_of g i) n (first-first g i) (let q = first-le g i in omega arith))

  -- .. and each number below c is a label
  pub labels-met : (n c l : ℕ) → Firsts from to n c → l < c → (i : ℕ) × (i < n) × (label_of from to i ≡ l)
  labels-met n c l r h = label-met (island_of from to) n l (rw (firsts-are r) at h)

-- ---- the table

pub table-turn : (k : ℕ) (f : ℕ → ℕ) → k < 32 → set (label_table k (each k f)) k (f k) ≡ label_table (k + 1) (each (k + 1) f)
unfolding each
table-turn k f h =
    let e : 32 - k ≡ suc (32 - suc k) = omega arith in
    rw (add-one, e, set_at (each k f) 0 (replicate (32 - suc k) 0) (f k) k (length-each k f), append_assoc)

-- what the table holds: the label of each bus, so what 01 means, and 0 past them
module _ (n : ℕ) (from to : List ℕ) where
  pub length-labels : length (labels_of n from to) ≡ n
  unfolding labels_of
  length-labels = length-each n (label_of from to)

  pub labels_at : (i : ℕ) → i < n → get_or (labels_of n from to) i 0 ≡ label_of from to i
  unfolding labels_of
  labels_at = each_at n (label_of from to) 0

  pub table_at : (i : ℕ) → i < n → get_or (label_table n (labels_of n from to)) i 0 ≡ label_of from to i
  table_at i h = get_or-append (labels_of n from to) (replicate (32 - n) 0) 0 i (rw length-labels h) ∙ labels_at i h

  pub table-labelled : Labelled n from to (λ i. get_or (label_table n (labels_of n from to)) i 0)
  table-labelled = record {
    same = λ i j h l. rw (table_at i h, table_at j l) (labels-same from to i j);
    counts = λ i f h. rw (table_at i h) (labels-count from to i f);
  }

  -- any list of n labels that are those meant is labels_of's
  pub labels-only : (l : List ℕ) → length l ≡ n → Labelled n from to (λ i. get_or l i 0) → l ≡ labels_of n from to
  unfolding labels_of
  labels-only l e w = is-each n (label_of from to) 0 l e (labels-unique from to n (λ j. get_or l j 0) (label_of from to) w (labels-mean from to n))

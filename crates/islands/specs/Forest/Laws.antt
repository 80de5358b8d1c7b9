-- The table of parents when a bus is hung one place higher, and when two trees are joined; and how far a bus is from its root. Assumes nothing.
use Rattle.std.specs.Prelude.{ℕ, zero, suc, ◌+◌, ◌≤◌, ◌<◌, ◌≡◌, cond, List, length, get_or, set, eqb, ltb}
use Rattle.std.proofs.Common.{sym, ap, ◌∙◌, ⊎_elim, arith, not-suc-le-zero, eq-eqb, ne_eqb, lt-ltb, le-ltb, ltb-true, length-set, get_or-set_same, get_or-set_other}
use Rattle.std.proofs.Math.Path.{fun_ext}
use Rattle.real.specs.Tests.{same_or_not}
use Rattle.islands.specs.Islands.{moved, tally}
use Rattle.islands.specs.Islands.Laws.{moved-met, moved_other, tally-le, tally-strict}
use Rattle.islands.specs.Forest.{Forest, joined_root}

-- ---- a bus hung one place higher

-- p[a] = v: what holds of each place before, and of v at a, holds of each place afterwards
module _ (p : List ℕ) (a v : ℕ) (size : length p ≡ 32) (l : a < 32) where
  after : (Q : ℕ → ℕ → Type 0) → Q a v → ((i : ℕ) → i < 32 → (i ≡ a → ⊥) → Q i (get_or p i 0)) → (i : ℕ) → i < 32 → Q i (get_or (set p a v) i 0)
  after Q here there i h =
      ⊎_elim (λ e. rw (e, get_or-set_same p a v 0 (omega arith)) here) (λ n. rw (get_or-set_other p a i v 0 n) (there i h n)) (same_or_not i a)

module _ {rank root : ℕ → ℕ} (p : List ℕ) (w : Forest rank root p) where
  -- a parent's rank is no higher
  no-higher : (i : ℕ) → i < 32 → rank (get_or p i 0) ≤ rank i
  no-higher i h = ⊎_elim (λ e. rw e (omega arith)) (λ n. let q = w.falls i h n in omega arith) (same_or_not (get_or p i 0) i)

  pub two_up : (a : ℕ) → a < 32 → (get_or p a 0 ≡ a → ⊥) → rank (get_or p (get_or p a 0) 0) < rank a
  two_up a l n = let q = w.falls a l n in let r = no-higher (get_or p a 0) (w.within a l) in omega arith

  pub halved : (a : ℕ) → a < 32 → (get_or p a 0 ≡ a → ⊥) → Forest rank root (set p a (get_or p (get_or p a 0) 0))
  halved a l n =
      let b = get_or p a 0 in
      let v = get_or p b 0 in
      let lb = w.within a l in
      let lower = two_up a l n in
      record {
        size = length-set p a v ∙ w.size;
        within = after p a v w.size l (λ i u. u < 32) (w.within b lb) (λ i h d. w.within i h);
        falls = after p a v w.size l (λ i u. (u ≡ i → ⊥) → rank u < rank i) (λ d. lower) (λ i h d. w.falls i h);
        along = after p a v w.size l (λ i u. root u ≡ root i) (w.along b lb ∙ w.along a l) (λ i h d. w.along i h);
        top =
            after p a v w.size l (λ i u. u ≡ i → root i ≡ i) (λ e. absurd (let q = ap rank e in let z : ⊥ = omega arith in z)) (λ i h d. w.top i h);
        inside = w.inside;
        stands = λ i h. get_or-set_other p a (root i) v 0 (λ e. n (rw e at (w.stands i h))) ∙ w.stands i h;
      }

-- ---- two trees joined

-- the ranks then: the tree that hangs lower is lifted above its new root
abbrev pub lifted : (ℕ → ℕ) → (ℕ → ℕ) → ℕ → ℕ → ℕ → ℕ
lifted rank root ra rb i = rank i + cond (eqb (root i) rb) (suc (rank ra)) 0

lifted-other : (rank root : ℕ → ℕ) (ra rb i : ℕ) → (root i ≡ rb → ⊥) → lifted rank root ra rb i ≡ rank i
lifted-other rank root ra rb i h = rw (ne_eqb (root i) rb h) (omega arith)

lifted-same : (rank root : ℕ → ℕ) (ra rb i : ℕ) → root i ≡ rb → lifted rank root ra rb i ≡ rank i + suc (rank ra)
lifted-same rank root ra rb i h = rw (eq-eqb (root i) rb h)

module _ {rank root : ℕ → ℕ} (p : List ℕ) (w : Forest rank root p) (a b : ℕ) (la : a < 32) (lb : b < 32) where
  -- the two ends had one root already
  pub unmoved : root a ≡ root b → Forest rank (joined_root root a b) p
  unmoved e = rw same w
    where
      one : (i : ℕ) → joined_root root a b i ≡ root i
      one i = ⊎_elim (λ s. moved-met (root a) (root b) (root i) s ∙ e ∙ sym s) (moved_other (root a) (root b) (root i)) (same_or_not (root i) (root b))

      same : joined_root root a b ≡ root
      same = fun_ext one

  pub hung : (root a ≡ root b → ⊥) → Forest (lifted rank root (root a) (root b)) (joined_root root a b) (set p (root b) (root a))
  hung n =
      let ra = root a in
      let rb = root b in
      let ka : ra < 32 = w.inside a la in
      let kb : rb < 32 = w.inside b lb in
      let own : root ra ≡ ra = w.top ra ka (w.stands a la) in
      let own' : root rb ≡ rb = w.top rb kb (w.stands b lb) in
      let apart : root ra ≡ rb → ⊥ = (λ e. n (sym own ∙ e)) in
      record {
        size = length-set p rb ra ∙ w.size;
        within = after p rb ra w.size kb (λ i u. u < 32) ka (λ i h d. w.within i h);
        falls =
            after p rb ra w.size kb (λ i u. (u ≡ i → ⊥) → lifted rank root ra rb u < lifted rank root ra rb i)
            (λ d. rw (lifted-other rank root ra rb ra apart, lifted-same rank root ra rb rb own') (omega arith))
            (λ i h d f. rw (w.along i h) (let q = w.falls i h f in omega arith));
        along =
            after p rb ra w.size kb (λ i u. moved ra rb (root u) ≡ moved ra rb (root i))
            (moved_other ra rb (root ra) apart ∙ own ∙ sym (moved-met ra rb (root rb) own'))
            (λ i h d. ap (moved ra rb) (w.along i h));
        top =
            after p rb ra w.size kb (λ i u. u ≡ i → moved ra rb (root i) ≡ i) (λ e. absurd (n e))
            (λ i h d e. moved_other ra rb (root i) (λ f. d (sym (w.top i h e) ∙ f)) ∙ w.top i h e);
        inside = λ i h. go (λ u. u < 32) ka i (λ d. w.inside i h);
        stands =
            λ i h. go (λ u. get_or (set p rb ra) u 0 ≡ u) (get_or-set_other p rb ra ra 0 n ∙ w.stands a la) i (λ d. get_or-set_other p rb (root i) ra 0 d ∙ w.stands i h);
      }
    where
      go : (Q : ℕ → Type 0) → Q (root a) → (i : ℕ) → ((root i ≡ root b → ⊥) → Q (root i)) → Q (joined_root root a b i)
      go Q moves i stays =
          ⊎_elim (λ e. rw (moved-met (root a) (root b) (root i) e) moves) (λ d. rw (moved_other (root a) (root b) (root i) d) (stays d)) (same_or_not (root i) (root b))

-- ---- how far a bus is from its root

-- the steps up from i, counted to k at most
unfoldable pub height : List ℕ → ℕ → ℕ → ℕ
height p zero i = 0
height p (suc k) i = cond (eqb (get_or p i 0) i) 0 (suc (height p k (get_or p i 0)))

height-up : (p : List ℕ) (k i : ℕ) → (get_or p i 0 ≡ i → ⊥) → height p (suc k) i ≡ suc (height p k (get_or p i 0))
unfolding height
height-up p k i h = rw (ne_eqb (get_or p i 0) i h)

height-top : (p : List ℕ) (k i : ℕ) → get_or p i 0 ≡ i → height p (suc k) i ≡ 0
unfolding height
height-top p k i h = rw (eq-eqb (get_or p i 0) i h)

-- the place of a rank among those of the 32 buses is a rank too, of at most 32
abbrev place : (ℕ → ℕ) → ℕ → ℕ
place rank i = tally (λ j. ltb (rank j) (rank i)) 32

module _ {rank root : ℕ → ℕ} (p : List ℕ) (w : Forest rank root p) where
  place-falls : (i : ℕ) → i < 32 → (get_or p i 0 ≡ i → ⊥) → place rank (get_or p i 0) < place rank i
  place-falls i h n =
      let u = get_or p i 0 in
      let q : rank u < rank i = w.falls i h n in
      tally-strict (λ j. ltb (rank j) (rank u)) (λ j. ltb (rank j) (rank i))
      (λ j e. lt-ltb (rank j) (rank i) (let s = ltb-true (rank j) (rank u) e in omega arith))
      32 u (w.within i h)
      (le-ltb (rank u) (rank u) (omega arith))
      (lt-ltb (rank u) (rank i) q)

  -- more steps than the place allows count no further
  settled : (k i : ℕ) → i < 32 → place rank i < k → height p k i ≡ height p (suc k) i
  settled zero i h l = absurd (not-suc-le-zero l)
  settled (suc k) i h l =
      ⊎_elim (λ e. height-top p k i e ∙ sym (height-top p (suc k) i e))
      (λ n. height-up p k i n ∙ ap suc (settled k (get_or p i 0) (w.within i h) (let q = place-falls i h n in omega arith)) ∙ sym (height-up p (suc k) i n))
      (same_or_not (get_or p i 0) i)

  -- so the steps up, counted to one more than 32, are a rank
  pub by_height : Forest (height p 33) root p
  by_height = record { size = w.size; within = w.within; falls = down; along = w.along; top = w.top; inside = w.inside; stands = w.stands }
    where
      down : (i : ℕ) → i < 32 → (get_or p i 0 ≡ i → ⊥) → height p 33 (get_or p i 0) < height p 33 i
      down i h n =
          let q = place-falls i h n in
          let r : place rank i ≤ 32 = tally-le (λ j. ltb (rank j) (rank i)) 32 in
          omega (arith, height-up p 32 i n, settled 32 (get_or p i 0) (w.within i h) (omega arith))

-- The laws of `stores` and `table`, over any type of element. Assumes nothing.
use Prim.Native.Nat.{ℕ, zero, suc, ◌+◌, ◌-◌, ◌≤◌, ◌<◌}
use Rattle.std.specs.Prelude.{◌≡◌, Bool, true, false, cond, List, ◌∷◌, ◌++◌, ◌⊎◌, take, drop, eqb, ltb, length, get_or, set, replicate}
use Rattle.std.proofs.Math.Path.{refl}
use Rattle.std.proofs.Common.{inl, inr, length-append, length-drop, sym, ap, ◌∙◌, not-suc-le-zero, add-one, arith, eq-eqb, eqb-true, ltb-true, ltb-false, ext_get_or, get_or-set_same}
use Rattle.std.proofs.Math.Logic.{⊎_elim}
use Rattle.std.proofs.lemmas.Bool.{eqb-false}
use Rattle.std.proofs.Math.ListN.{length-set}
use Rattle.std.proofs.lemmas.List.{length-replicate, get_or-replicate}
use Rattle.std.proofs.Math.Seq.{get_or-set_other}
use Rattle.std.proofs.lemmas.List.{get_or-take, get_or-drop, get_or-append_right, length-take-le}
use Rattle.std.proofs.Math.ListN.{get_or-append}
use Rattle.real.specs.Tests.{same-or-below, below_or}
use Rattle.layout.specs.Table.{stores, table}

module _ {A : Type 0} where
  pub stores-length : (f : ℕ → A) (k : ℕ) (l : List A) → length (stores f k l) ≡ length l
  unfolding stores
  stores-length f zero l = refl
  stores-length f (suc k) l = simp length-set (stores-length f k l)

  -- at a place that was written
  pub stores_at : (f : ℕ → A) (k : ℕ) (l : List A) (i : ℕ) (d : A) → i < k → k ≤ length l → get_or (stores f k l) i d ≡ f i
  unfolding stores
  stores_at f zero l i d p h = absurd (not-suc-le-zero p)
  stores_at f (suc k) l i d p h =
      ⊎_elim (λ q. rw q (get_or-set_same (stores f k l) k (f k) d (rw stores-length (omega arith))))
      (λ q. get_or-set_other (stores f k l) k i (f k) d (omega arith) ∙ stores_at f k l i d q (omega arith)) (same-or-below p)

  -- and past those
  pub stores-past : (f : ℕ → A) (k : ℕ) (l : List A) (i : ℕ) (d : A) → k ≤ i → get_or (stores f k l) i d ≡ get_or l i d
  unfolding stores
  stores-past f zero l i d p = refl
  stores-past f (suc k) l i d p = get_or-set_other (stores f k l) k i (f k) d (omega arith) ∙ stores-past f k l i d (omega arith)

  -- only what f gives below k counts
  pub stores-ext : (f g : ℕ → A) (k : ℕ) (l : List A) → ((i : ℕ) → i < k → f i ≡ g i) → stores f k l ≡ stores g k l
  unfolding stores
  stores-ext f g zero l h = refl
  stores-ext f g (suc k) l h = rw (stores-ext f g k l (λ i p. h i (omega arith)), h k (omega arith))

  -- one place more is written over: f changed there
  pub stores-set : (f : ℕ → A) (k : ℕ) (l : List A) (b : ℕ) (v : A) → b < k → k ≤ length l → set (stores f k l) b v ≡ stores (λ i. cond (eqb i b) v (f i)) k l
  stores-set f k l b v p h =
      ext_get_or v (set (stores f k l) b v) (stores g k l) (simp (length-set, stores-length)) (λ i q. at i (ltb i k) refl)
    where
      g : ℕ → A
      g i = cond (eqb i b) v (f i)

      past : (i : ℕ) → k ≤ i → get_or (set (stores f k l) b v) i v ≡ get_or (stores g k l) i v
      past i q = get_or-set_other (stores f k l) b i v v (omega arith) ∙ stores-past f k l i v q ∙ sym (stores-past g k l i v q)

      written : (i : ℕ) (t : Bool) → eqb i b ≡ t → i < k → get_or (set (stores f k l) b v) i v ≡ get_or (stores g k l) i v
      written i true e q =
          rw (eqb-true i b e) (get_or-set_same (stores f k l) b v v (rw stores-length (omega arith)) ∙ sym (stores_at g k l b v p h ∙ rw (eq-eqb b b refl)))
      written i false e q = get_or-set_other (stores f k l) b i v v (eqb-false i b e) ∙ stores_at f k l i v q h ∙ sym (stores_at g k l i v q h ∙ rw e)

      at : (i : ℕ) (t : Bool) → ltb i k ≡ t → get_or (set (stores f k l) b v) i v ≡ get_or (stores g k l) i v
      at i true e = written i (eqb i b) refl (ltb-true i k e)
      at i false e = past i (ltb-false i k e)

  pub table_at : (n : ℕ) (z : A) (f : ℕ → A) (b : ℕ) (d : A) → b < n → n ≤ 32 → get_or (table n z f) b d ≡ f b
  table_at n z f b d p h = stores_at f n (replicate 32 z) b d p (rw length-replicate h)

  pub table-past : (n : ℕ) (z : A) (f : ℕ → A) (b : ℕ) (d : A) → n ≤ b → b < 32 → get_or (table n z f) b d ≡ z
  table-past n z f b d p h = stores-past f n (replicate 32 z) b d p ∙ get_or-replicate 32 b z d h

  pub table-set : (n : ℕ) (z : A) (f : ℕ → A) (b : ℕ) (v : A) → b < n → n ≤ 32 → set (table n z f) b v ≡ table n z (λ i. cond (eqb i b) v (f i))
  table-set n z f b v p h = stores-set f n (replicate 32 z) b v p (rw length-replicate h)

  same_set : (m i : ℕ) (z : A) → set (replicate m z) i z ≡ replicate m z
  same_set zero i z = refl
  same_set (suc m) zero z = refl
  same_set (suc m) (suc i) z = ap (λ (l : List A). z ∷ l) (same_set m i z)

  -- one value everywhere
  pub table_same : (k : ℕ) (z : A) → table k z (λ b. z) ≡ replicate 32 z
  unfolding stores
  table_same zero z = refl
  table_same (suc k) z = rw (table_same k z) (same_set 32 k z)

-- ---- copies

-- the first places of one list, and the rest of another
module _ {A : Type 0} (n : ℕ) (l t : List A) (d : A) (long : n ≤ length l) (room : n ≤ length t) where
  at : (i : ℕ) → (i < n) ⊎ (n ≤ i) → get_or (take n l ++ drop n t) i d ≡ get_or (stores (λ b. get_or l b d) n t) i d
  at i (inl h) =
      get_or-append (take n l) (drop n t) d i (rw (length-take-le n l long) h)
      ∙ get_or-take n l i d h
      ∙ sym (stores_at (λ b. get_or l b d) n t i d h room)
  at i (inr h) =
      get_or-append_right (take n l) (drop n t) n i d (length-take-le n l long) h
      ∙ get_or-drop n t (i - n) d
      ∙ ap (λ (k : ℕ). get_or t k d) (omega arith)
      ∙ sym (stores-past (λ b. get_or l b d) n t i d h)

  pub stored-taken : take n l ++ drop n t ≡ stores (λ b. get_or l b d) n t
  stored-taken = ext_get_or d _ _ (rw (length-append, length-take-le n l long, length-drop, stores-length) (omega arith)) (λ i h. at i (below_or i n))

-- ---- loops that count

-- a loop counts to n and is at k: it has made a, which is f k
pub record Counted {A : Type 0} (f : ℕ → A) (n k : ℕ) (a : A) : Type 0 where
  pub within : k ≤ n
  pub so_far : a ≡ f k

-- when it has counted to n it has made f n
pub counted-all : {A : Type 0} {f : ℕ → A} {n k : ℕ} {a : A} → Counted f n k a → n ≤ k → a ≡ f n
counted-all {n = n} {k = k} c h = let e : k ≡ n = omega arith in rw (← e) c.so_far

-- a loop stores f at the places of l below n and is at k: it has made a
pub record Stored {A : Type 0} (f : ℕ → A) (l : List A) (n k : ℕ) (a : List A) : Type 0 where
  pub within : k ≤ n
  pub so_far : a ≡ stores f k l

module _ {A : Type 0} {f : ℕ → A} {l : List A} {n : ℕ} where
  -- at first it has made l
  pub stored-none : Stored f l n 0 l
  unfolding stores
  stored-none = record { within = omega arith; so_far = refl }

  -- and with the next place one more is stored
  pub stored_next : {k : ℕ} {a : List A} {v : A} → Stored f l n k a → k < n → v ≡ f k → Stored f l n (k + 1) (set a k v)
  unfolding stores
  stored_next c h e = record { within = omega arith; so_far = rw (add-one, ← c.so_far, e) }

  -- at n it has stored all
  pub stored-all : {k : ℕ} {a : List A} → Stored f l n k a → n ≤ k → a ≡ stores f n l
  stored-all {k = k} c h = let e : k ≡ n = omega arith in rw (← e) c.so_far

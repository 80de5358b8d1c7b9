-- How long a column of the list is, what stands at its places, which places there are, and that storing place by place writes it. Assumes nothing.
use Prim.Native.Nat.{ℕ, zero, suc, ◌+◌, ◌*◌, ◌≤◌, ◌<◌}
use Rattle.std.specs.Prelude.{◌≡◌, List, [], ◌∷◌, ◌++◌, get_or, set, drop}
use Rattle.std.proofs.Math.Path.{refl}
use Rattle.std.proofs.Common.{sym, ap, ◌∙◌, not-suc-le-zero, add-one, drop-cons}
use Rattle.std.proofs.Math.Logic.{⊎_elim}
use native.Mathlib.Omega.{arith}
use Rattle.std.proofs.Math.ListN.{length, length-append, get_or-append}
use Rattle.std.proofs.Math.Seq.{set-append_seam, append_snoc, get_or-append-add}
use Rattle.real.specs.Tests.{same-or-below, below_or}
use Rattle.real.specs.Each.{each}
use Rattle.real.specs.Each.Laws.{length-each, each_at}
use Rattle.layout.specs.Table.{stores}
use Rattle.ybus.specs.Listed.{listed, onto, pairs}

-- ---- places

-- a place of the list is a bus's, or the first or the second of a branch's
pub data Place (n m t : ℕ) : Type 0 where
  bus : t < n → Place n m t
  first : (k : ℕ) → k < m → t ≡ n + 2 * k → Place n m t
  second : (k : ℕ) → k < m → t ≡ n + 2 * k + 1 → Place n m t

pub place : (n m t : ℕ) → t < n + 2 * m → Place n m t
place n zero t h = bus (omega arith)
place n (suc m) t h = ⊎_elim (λ l. more (place n m t l)) (λ g. last g) (below_or t (n + 2 * m))
  where
    more : Place n m t → Place n (suc m) t
    more (bus l) = bus l
    more (first k l e) = first k (omega arith) e
    more (second k l e) = second k (omega arith) e

    last : n + 2 * m ≤ t → Place n (suc m) t
    last g = ⊎_elim (λ l. first m (omega arith) (omega arith)) (λ l. second m (omega arith) (omega arith)) (below_or t (n + 2 * m + 1))

-- ---- what stands there

module _ {A : Type 0} (n : ℕ) (d : ℕ → A) (x y : ℕ → A) where
  pub length-listed : (m : ℕ) → length (listed n d m x y) ≡ n + 2 * m
  unfolding listed
  length-listed zero = length-each n d ∙ omega arith
  length-listed (suc m) = simp (length-append, length-listed m) (omega arith)

  pub listed-bus : (m t : ℕ) (z : A) → t < n → get_or (listed n d m x y) t z ≡ d t
  unfolding listed
  listed-bus zero t z h = each_at n d z t h
  listed-bus (suc m) t z h = get_or-append (listed n d m x y) _ z t (omega (arith, length-listed m)) ∙ listed-bus m t z h

  pub listed-first : (m k : ℕ) (z : A) → k < m → get_or (listed n d m x y) (n + 2 * k) z ≡ x k
  unfolding listed
  listed-first zero k z h = absurd (not-suc-le-zero h)
  listed-first (suc m) k z h =
      ⊎_elim
      (λ e.
      let at : n + 2 * k ≡ length (listed n d m x y) + 0 = omega (arith, length-listed m) in
      rw (at, get_or-append-add (listed n d m x y) (x m ∷ y m ∷ []) 0 z) (ap x (sym e)))
      (λ l. get_or-append (listed n d m x y) _ z (n + 2 * k) (omega (arith, length-listed m)) ∙ listed-first m k z l)
      (same-or-below h)

  pub listed-second : (m k : ℕ) (z : A) → k < m → get_or (listed n d m x y) (n + 2 * k + 1) z ≡ y k
  unfolding listed
  listed-second zero k z h = absurd (not-suc-le-zero h)
  listed-second (suc m) k z h =
      ⊎_elim
      (λ e.
      let at : n + 2 * k + 1 ≡ length (listed n d m x y) + 1 = omega (arith, length-listed m) in
      rw (at, get_or-append-add (listed n d m x y) (x m ∷ y m ∷ []) 1 z) (ap y (sym e)))
      (λ l. get_or-append (listed n d m x y) _ z (n + 2 * k + 1) (omega (arith, length-listed m)) ∙ listed-second m k z l)
      (same-or-below h)

-- only what the functions give below n and m counts
pub each-ext : {A : Type 0} (n : ℕ) (f g : ℕ → A) → ((i : ℕ) → i < n → f i ≡ g i) → each n f ≡ each n g
unfolding each
each-ext zero f g h = refl
each-ext (suc k) f g h = rw (each-ext k f g (λ i p. h i (omega arith)), h k (omega arith))

pub listed-ext : {A : Type 0} (n : ℕ) (d d' : ℕ → A) (m : ℕ) (x x' y y' : ℕ → A)
    → ((i : ℕ) → i < n → d i ≡ d' i) → ((k : ℕ) → k < m → x k ≡ x' k) → ((k : ℕ) → k < m → y k ≡ y' k)
    → listed n d m x y ≡ listed n d' m x' y'
unfolding listed
listed-ext n d d' zero x x' y y' hd hx hy = each-ext n d d' hd
listed-ext n d d' (suc m) x x' y y' hd hx hy =
    rw (listed-ext n d d' m x x' y y' hd (λ k p. hx k (omega arith)) (λ k p. hy k (omega arith)), hx m (omega arith), hy m (omega arith))

-- ---- storing place by place

module _ {A : Type 0} where
  -- one more at the end of what is written
  pub onto-next : (s l : List A) (a : A) (k : ℕ) → length s ≡ k → k < length l → set (onto s l) k a ≡ onto (s ++ (a ∷ [])) l
  onto-next s l a k e h =
      let size : length (s ++ (a ∷ [])) ≡ suc k = length-append s (a ∷ []) ∙ omega arith in
      rw (size, append_snoc s a (drop (suc k) l), e, drop-cons l k a h, ← e) (set-append_seam s _ _ a)

  pub stores-onto : (d : ℕ → A) (n : ℕ) (l : List A) → n ≤ length l → stores d n l ≡ onto (each n d) l
  unfolding stores each
  stores-onto d zero l h = refl
  stores-onto d (suc k) l h = rw (stores-onto d k l (omega arith)) (onto-next (each k d) l (d k) k (length-each k d) h)

  -- the buses, then the branches
  pub pairs_onto : (n : ℕ) (d : ℕ → A) (m : ℕ) (x y : ℕ → A) (l : List A) → n + 2 * m ≤ length l → pairs n m x y (stores d n l) ≡ onto (listed n d m x y) l
  unfolding pairs listed
  pairs_onto n d zero x y l h = stores-onto d n l (omega arith)
  pairs_onto n d (suc m) x y l h =
      let s = listed n d m x y in
      let size = length-listed n d x y m in
      let more : length (s ++ (x m ∷ [])) ≡ n + 2 * m + 1 = length-append s (x m ∷ []) ∙ omega arith in
      rw (pairs_onto n d m x y l (omega arith), onto-next s l (x m) (n + 2 * m) size (omega arith), onto-next (s ++ (x m ∷ [])) l (y m) (n + 2 * m + 1) more (omega arith), append_snoc s (x m) (y m ∷ []))

  pub pairs-turn : (n k : ℕ) (x y : ℕ → A) (l : List A) → pairs n (k + 1) x y l ≡ set (set (pairs n k x y l) (n + 2 * k) (x k)) (n + 2 * k + 1) (y k)
  unfolding pairs
  pairs-turn n k x y l = rw (add-one k)

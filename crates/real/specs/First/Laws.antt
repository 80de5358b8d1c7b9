-- The number told passes and no lower one does; none is told exactly where no number passes. Assumes nothing.
use Prim.Native.Nat.{ℕ, zero, suc, ◌+◌, ◌<◌, ◌≤◌}
use Rattle.std.specs.Prelude.{◌≡◌, Bool, Option, Some, None, List, length, get_or}
use Rattle.std.specs.List.{position, position_or_len}
use Rattle.std.proofs.lemmas.Grind.{common_steps}
use Rattle.std.proofs.lemmas.List.Quantifiers.{position-Some}
use Rattle.std.proofs.lemmas.List.Sums.{fails_before_first}
use Rattle.std.proofs.Math.Path.{refl}
use Rattle.std.proofs.Common.{sym, ◌∙◌, not-suc-le-zero, add-one, arith}
use Rattle.std.proofs.Math.Bool.{true, false}
use Rattle.std.proofs.Math.Logic.{⊎_elim}
use Rattle.real.specs.Tests.{same-or-below, no-case}
use Rattle.real.specs.First.{earlier, if_at, first_below}

-- no number below n passes
abbrev pub Clear : ℕ → (ℕ → Bool) → Type 0
Clear n t = (j : ℕ) → j < n → t j ≡ false

-- i is below n and passes, and none below it does
pub record Lowest (n : ℕ) (t : ℕ → Bool) (i : ℕ) : Type 0 where
  pub inside : i < n
  pub passes : t i ≡ true
  pub lower : Clear i t

module _ (t : ℕ → Bool) where
  -- ---- a loop that looks at one number after another

  pub first-begins : None ≡ first_below 0 t
  unfolding first_below
  first-begins = refl

  pub first-turn : (i : ℕ) (found here r : Option ℕ) → found ≡ first_below i t → here ≡ if_at (t i) i → r ≡ earlier found here → r ≡ first_below (i + 1) t
  unfolding first_below
  first-turn i found here r f h e = rw (add-one, ← f, ← h) e

  -- ---- where none passes, or one is the lowest, that is told

  clear-more : (k : ℕ) → Clear k t → t k ≡ false → Clear (suc k) t
  clear-more k h e j p = ⊎_elim (λ s. rw s e) (λ l. h j l) (same-or-below p)

  pub clear-nowhere : (n : ℕ) → Clear n t → first_below n t ≡ None
  unfolding first_below
  clear-nowhere zero h = refl
  clear-nowhere (suc k) h = rw (clear-nowhere k (λ j p. h j (omega arith)), h k (omega arith))

  pub lowest-at : (n i : ℕ) → Lowest n t i → first_below n t ≡ Some i
  unfolding first_below
  lowest-at zero i h = absurd (not-suc-le-zero h.inside)
  lowest-at (suc k) i h =
      ⊎_elim
      (λ e. rw (clear-nowhere k (rw e at h.lower), ← e, h.passes))
      (λ l. rw (lowest-at k i (record { inside = l; passes = h.passes; lower = h.lower })))
      (same-or-below h.inside)

  -- ---- and what is told is so

  pub nowhere-clear : (n : ℕ) → first_below n t ≡ None → Clear n t
  unfolding first_below
  nowhere-clear zero h = λ j p. absurd (not-suc-le-zero p)
  nowhere-clear (suc k) h = go (nowhere-clear k) (first_below k t) refl (t k) refl h
    where
      go : (first_below k t ≡ None → Clear k t) → (o : Option ℕ) → first_below k t ≡ o → (s : Bool) → t k ≡ s → earlier o (if_at s k) ≡ None → Clear (suc k) t
      go before (Some i) e s es q = no-case (cc)
      go before None e true es q = no-case (cc)
      go before None e false es q = clear-more k (before e) es

  pub at-lowest : (n i : ℕ) → first_below n t ≡ Some i → Lowest n t i
  unfolding first_below
  at-lowest zero i h = no-case (cc)
  at-lowest (suc k) i h = go (at-lowest k i) (first_below k t) refl (t k) refl h
    where
      go : (first_below k t ≡ Some i → Lowest k t i) → (o : Option ℕ) → first_below k t ≡ o → (s : Bool) → t k ≡ s → earlier o (if_at s k) ≡ Some i → Lowest (suc k) t i
      go before (Some j) e s es q =
          let l = before (e ∙ q) in
          record { inside = omega (arith, l.inside); passes = l.passes; lower = l.lower }
      go before None e true es q =
          let same : k ≡ i = cc in
          record { inside = omega arith; passes = rw same at es; lower = rw same at (nowhere-clear k e) }
      go before None e false es q = no-case (cc)

-- tests that agree below n find the same
pub first_same : (n : ℕ) (t u : ℕ → Bool) → ((i : ℕ) → i < n → t i ≡ u i) → first_below n t ≡ first_below n u
unfolding first_below
first_same zero t u h = refl
first_same (suc k) t u h = rw (first_same k t u (λ i p. h i (omega arith)), h k (omega arith)) refl

-- ---- the library's `position`, over a list

position_none : {X : Type 0} (p : X → Bool) (xs : List X) (d : X) → position p xs ≡ None → Clear (length xs) (λ i. p (get_or xs i d))
position_none p xs d e j h =
    let whole : length xs ≤ position_or_len p xs = grind (arith, common_steps) in
    fails_before_first p xs j d (omega (arith, whole))

-- the first item that passes stands at the lowest index that does
pub position_first : {X : Type 0} (p : X → Bool) (xs : List X) (d : X) → position p xs ≡ first_below (length xs) (λ i. p (get_or xs i d))
position_first p xs d = go (position p xs) refl
  where
    go : (o : Option ℕ) → position p xs ≡ o → o ≡ first_below (length xs) (λ i. p (get_or xs i d))
    go (Some i) e =
        let h = position-Some p xs i d e in
        sym (lowest-at (λ i. p (get_or xs i d)) (length xs) i (record { inside = h.0; passes = h.1; lower = h.2 }))
    go None e = sym (clear-nowhere (λ i. p (get_or xs i d)) (length xs) (position_none p xs d e))

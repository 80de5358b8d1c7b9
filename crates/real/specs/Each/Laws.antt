-- How long the list of values is, what stands at its places, and that a list with these values is it. Assumes nothing.
use Prim.Native.Nat.{ℕ, zero, suc, ◌<◌}
use Rattle.std.specs.Prelude.{◌≡◌, length, get_or}
use Rattle.std.proofs.Math.Path.{refl}
use Rattle.std.proofs.Common.{sym, ◌∙◌, arith, not-suc-le-zero, length-append, ext_get_or}
use mathlib.Core.List.{List, [], ◌∷◌}
use Rattle.std.proofs.Math.Logic.{⊎_elim}
use Rattle.std.proofs.Math.ListN.{get_or-append}
use Rattle.std.proofs.lemmas.List.{get_or_at}
use Rattle.real.specs.Tests.{same-or-below}
use Rattle.real.specs.Each.{each}

module _ {A : Type 0} where
  pub length-each : (n : ℕ) (f : ℕ → A) → length (each n f) ≡ n
  unfolding each
  length-each zero f = refl
  length-each (suc k) f = simp (length-append, length-each k f) (omega arith)

  pub each_at : (n : ℕ) (f : ℕ → A) (d : A) (i : ℕ) → i < n → get_or (each n f) i d ≡ f i
  unfolding each
  each_at zero f d i h = absurd (not-suc-le-zero h)
  each_at (suc k) f d i h =
      ⊎_elim (λ e. rw e (get_or_at (each k f) (f k) [] d k (length-each k f)))
      (λ l. get_or-append (each k f) (f k ∷ []) d i (omega (arith, length-each k f)) ∙ each_at k f d i l)
      (same-or-below h)

  pub is-each : (n : ℕ) (f : ℕ → A) (d : A) (l : List A) → length l ≡ n → ((i : ℕ) → i < n → get_or l i d ≡ f i) → l ≡ each n f
  is-each n f d l e h = ext_get_or d l (each n f) (e ∙ sym (length-each n f)) (λ i k. h i (omega arith) ∙ sym (each_at n f d i (omega arith)))

-- Where none passes, no number does; where one does, some do. Assumes nothing.
use Rattle.std.specs.Prelude.{ℕ, zero, suc, ◌<◌, ◌≡◌, Bool, true, false}
use Rattle.std.proofs.Common.{⊎_elim, not-suc-le-zero}
use Rattle.real.specs.Tests.{nor-left, nor-right, or-first, or-last, same-or-below}
use Rattle.real.specs.Any.{any_below}

pub none_below : (k : ℕ) (t : ℕ → Bool) → any_below k t ≡ false → (i : ℕ) → i < k → t i ≡ false
unfolding any_below
none_below zero t h i p = absurd (not-suc-le-zero p)
none_below (suc k) t h i p = ⊎_elim (λ e. rw e (nor-right (any_below k t) _ h)) (λ q. none_below k t (nor-left _ (t k) h) i q) (same-or-below p)

pub one_below : (k : ℕ) (t : ℕ → Bool) (i : ℕ) → i < k → t i ≡ true → any_below k t ≡ true
unfolding any_below
one_below zero t i p h = absurd (not-suc-le-zero p)
one_below (suc k) t i p h = ⊎_elim (λ e. or-last (any_below k t) (rw e at h)) (λ q. or-first (t k) (one_below k t i q h)) (same-or-below p)

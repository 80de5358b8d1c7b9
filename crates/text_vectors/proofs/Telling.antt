-- What is told of a column by its places, and of columns of marks whose first places are lent. Assumes nothing.
use Rattle.std.specs.Prelude.{ℕ, ◌≤◌, ◌<◌, ◌≡◌, true, false, List, ◌++◌, length, get_or, take, drop, replicate}
use Rattle.std.proofs.Common.{refl, sym, ap, ◌∙◌}
use Rattle.std.proofs.Math.Seq.{take_at}
use Rattle.std.proofs.lemmas.List.{get_or-take}
use Rattle.real.specs.Each.{each}
use Rattle.real.specs.Each.Laws.{length-each, each_at, is-each}
use Rattle.vectors.specs.Words.{Tells}
use Rattle.vectors.specs.Words.Laws.{never-told}
use Rattle.vectors.specs.Sizes.{lent}

module _ {A : Type 0} (col : List A) (n : ℕ) (f : ℕ → A) where
  -- a column that is told is as long as what is told of it, and each place holds this
  pub wrong_length : (length col ≡ n → ⊥) → Tells false (col ≡ each n f)
  wrong_length h = never-told (λ e. h (rw e (length-each n f)))

  pub wrong_place : (d : A) (i : ℕ) → i < n → (get_or col i d ≡ f i → ⊥) → Tells false (col ≡ each n f)
  wrong_place d i k h = never-told (λ e. h (rw e (each_at n f d i k)))

  -- and where each place holds it, the column is told
  pub places-told : (d : A) → length col ≡ n → ((i : ℕ) → i < n → get_or col i d ≡ f i) → Tells true (col ≡ each n f)
  places-told d e h = (λ t. is-each n f d col e h, λ t. refl)

module _ {A : Type 0} (d : A) {n w : ℕ} (e : n ≡ w) (col : List A) (f : ℕ → A) where
  -- where the first places are told, each holds what is told of it
  pub told_at : take w col ≡ each w f → (i : ℕ) → i < n → get_or col i d ≡ f i
  told_at t i h = let k = rw e at h in sym (get_or-take w col i d k) ∙ ap (λ (l : List A). get_or l i d) t ∙ each_at w f d i k

-- the first m of n equal places stand in front again after a call that kept their number
pub given_back : {A : Type 0} (n : ℕ) {m w : ℕ} (a : A) → m ≤ n → m ≡ w → (new : List A) → length new ≡ length (take m (replicate n a))
    → take w (new ++ drop m (replicate n a)) ≡ new
given_back n {m} a h e new kept = take_at new (drop m (replicate n a)) _ (kept ∙ sym (lent n a h) ∙ e)

-- What the comparisons of the program show of the definitions: the input tells every place, so there is one list, one record and one workspace
-- to begin from. Assumes nothing.
use Rattle.std.specs.Prelude.{ℕ, ◌+◌, ◌*◌, ◌≤◌, ◌<◌, ◌≡◌, Bool, List, [], ◌∷◌, length, get_or, take, replicate, Float, Option, Some, None, is_some, true, false, not}
use Rattle.std.specs.Float.{nan}
use Rattle.std.proofs.Common.{refl, sym, ◌∙◌, le_refl, ext_get_or, length-take-le}
use Rattle.std.proofs.lemmas.List.{length-replicate, get_or-replicate, get_or-take}
use Rattle.real.specs.Each.{each}
use Rattle.real.specs.Each.Laws.{length-each, is-each}
use Rattle.real.specs.First.{first_below}
use Rattle.real.specs.Literals.{nought}
use Rattle.real.specs.Tests.{no-case}
use Rattle.vectors.specs.Words.{Tells}
use Rattle.vectors.specs.Words.Laws.{never-told}
use Rattle.network.specs.Below.{Below}
use Rattle.network.specs.Missing.{bus_missing}
use Rattle.network.specs.Missing.Laws.{nowhere-below, below-nowhere}
use Rattle.network.specs.Network.{triplets_of}
use Rattle.layout.specs.Table.{stores}
use Rattle.layout.specs.Table.Laws.{stores-length, stores_at}
use Rattle.injections.specs.Injections.{GoodTriplets}
use Rattle.injection_vectors.specs.Told.{words_told, doubles_told, triplets_told, Zeros, Holds, jacobian_at, Entries}

-- ---- lists

-- the first n of a list into which n values were stored are these
pub first_told : {A : Type 0} (f : ℕ → A) (n m : ℕ) (z : A) → n ≤ m → take n (stores f n (replicate m z)) ≡ each n f
first_told f n m z h =
    let long : n ≤ length (stores f n (replicate m z)) = rw (stores-length, length-replicate) h in
    is-each n f z _ (length-take-le n _ long) (λ i p. get_or-take n _ i z p ∙ stores_at f n (replicate m z) i z p (rw length-replicate h))

-- a list that is written over whole is what was written, whatever it held
written_over : {A : Type 0} (f : ℕ → A) (d : A) (l : List A) → stores f (length l) l ≡ each (length l) f
written_over f d l = is-each (length l) f d (stores f (length l) l) (stores-length f (length l) l) (λ i h. stores_at f (length l) l i d h (le_refl (length l)))

-- lists of one length that are alike at every place are the same
pub alike : {A : Type 0} (xs ys : List A) → length xs ≡ length ys → ((d : A) (i : ℕ) → i < length xs → get_or xs i d ≡ get_or ys i d) → xs ≡ ys
alike [] [] e h = refl
alike [] (y ∷ ys) e h = no-case cc
alike (x ∷ xs) ys e h = ext_get_or x (x ∷ xs) ys e (h x)

module _ (s : List ℕ) (m : ℕ) where
  pub ybus-parts : (row col : List ℕ) (re im : List Float)
      → row ≡ words_told s 0 m → col ≡ words_told s (m * 8) m → re ≡ doubles_told s (m * 16) m → im ≡ doubles_told s (m * 24) m
      → triplets_of row col re im ≡ triplets_told s m
  unfolding triplets_told
  ybus-parts row col re im a b c d = rw (a, b, c, d)

  pub good : (n : ℕ) → n ≤ 32 → Below n (triplets_told s m).row → Below n (triplets_told s m).col → GoodTriplets n (triplets_told s m)
  unfolding triplets_told
  good n few rows cols =
      record {
        few = few;
        cols = simp length-each;
        res = simp length-each;
        ims = simp length-each;
        rows_below = rows;
        cols_below = cols;
      }

-- ---- the workspace

pub zeros : Zeros (replicate 4224 nought)
zeros = record { size = length-replicate 4224 nought; each = λ i h. get_or-replicate 4224 i nought nan h }

one-space : {w v : List Float} → Zeros w → Zeros v → w ≡ v
one-space {w} {v} a b = is-each 4224 (λ i. nought) nan w a.size a.each ∙ sym (is-each 4224 (λ i. nought) nan v b.size b.each)

pub entries-told : (s : List ℕ) (n m dim : ℕ) (w v : List Float) (r : Bool) → Zeros w → v ≡ jacobian_at s n m dim w → Tells r (Holds v s (m * 32 + n * 80) dim)
    → Tells r (Entries s n m dim)
entries-told s n m dim w v r z is t = (λ e u y. rw (one-space y z, ← is) (t.0 e), λ h. t.1 (rw is (h w z)))

-- ---- bus numbers

-- no number of a column is missing exactly where each is below n
pub below-told : (n : ℕ) (l : List ℕ) (r : Option ℕ) (b : Bool) → is_some r ≡ not b → r ≡ first_below (length l) (bus_missing n l) → Tells b (Below n l)
below-told n l None true q e = (λ h. nowhere-below n l (sym e), λ h. refl)
below-told n l None false q e = no-case cc
below-told n l (Some i) true q e = no-case cc
below-told n l (Some i) false q e = never-told (λ h. let same = e ∙ below-nowhere n l h in no-case cc)

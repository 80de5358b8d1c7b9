-- A list of bytes cut at a byte: what stands before the first one, what stands after it, and all the pieces.
pub mod Laws
use Rattle.std.specs.Prelude.{◌≡◌, ℕ, ◌+◌, ◌≤◌, ◌<◌, Bool, true, false, cond, ◌&&◌, List, [], ◌∷◌, eqb, length}
use Rattle.std.proofs.Math.Seq.{slice}

abbrev pub empty : {A : Type 0} → List A → Bool
empty [] = true
empty (b ∷ r) = false

-- the one byte x
abbrev pub only : ℕ → List ℕ → Bool
only x [] = false
only x (b ∷ r) = eqb b x && empty r

-- the bytes before the first x, all of them where there is none
unfoldable pub upto : ℕ → List ℕ → List ℕ
upto x [] = []
upto x (b ∷ r) = cond (eqb b x) [] (b ∷ upto x r)

-- the bytes after the first x, none where there is none
unfoldable pub past : ℕ → List ℕ → List ℕ
past x [] = []
past x (b ∷ r) = cond (eqb b x) r (past x r)

-- whether there is an x
unfoldable pub has : ℕ → List ℕ → Bool
has x [] = false
has x (b ∷ r) = cond (eqb b x) true (has x r)

-- a byte in front of the first piece
abbrev pub onto : ℕ → List (List ℕ) → List (List ℕ)
onto b [] = (b ∷ []) ∷ []
onto b (p ∷ ps) = (b ∷ p) ∷ ps

-- the pieces between the x's: one more than there are x's
unfoldable pub pieces : ℕ → List ℕ → List (List ℕ)
pieces x [] = [] ∷ []
pieces x (b ∷ r) = cond (eqb b x) ([] ∷ pieces x r) (onto b (pieces x r))

-- p is the place of the first x from a up to e, and e where there is none. `place` says it all; the rest follows from it (`found` of
-- Cut/Laws.antt) and is what a caller asks
pub record Found (s : List ℕ) (a e x p : ℕ) : Type 0 where
  pub place : p ≡ a + length (upto x (slice a e s))
  pub low : a ≤ p
  pub high : p ≤ e
  pub front : slice a p s ≡ upto x (slice a e s)
  pub back : p < e → slice (p + 1) e s ≡ past x (slice a e s)
  pub hit : p < e → has x (slice a e s) ≡ true
  pub none : e ≤ p → has x (slice a e s) ≡ false
  pub more : p < e → pieces x (slice a e s) ≡ slice a p s ∷ pieces x (slice (p + 1) e s)
  pub last : e ≤ p → pieces x (slice a e s) ≡ slice a p s ∷ []

-- The alphabet's search: a byte of it, and the first that is not. Assumes nothing.
use Rattle.fields.specs.Cut.Laws.{slice-step, slice-none}
use Rattle.std.proofs.Math.Seq.{slice}
use Rattle.std.specs.Prelude.{◌≡◌, refl, true, false, List, [], ◌∷◌, ℕ, ◌≤◌, ◌<◌, eqb, length, Option, Some, None, MatchOption, unwrap_or, get_or, zero, suc, ◌+◌, ltb, leb, ◌&&◌}
use Rattle.std.specs.List.{list_any, AllWithin, HoldsAt}
use Rattle.std.proofs.Common.{sym, ⊎_elim, arith, ◌∙◌, lt-ltb, le-ltb, leb-true, eq-eqb, ne_eqb}
use Rattle.std.proofs.lemmas.Iterator.{index_from_first}
use Rattle.fields.specs.Cut.{has, Found}
use Rattle.real.specs.Tests.{decided, below_or, true-false, and_left, and_right}
use Rattle.trailer.specs.declared.Edition.{Edition}
use Rattle.case_text.specs.Alphabet.{alphabet_of, known_of, alphabet}

-- a byte is of a list where it is one of its bytes
pub any-has : (x : ℕ) (l : List ℕ) → list_any (λ b. eqb b x) l ≡ has x l
unfolding has
any-has x [] = refl
any-has x (b ∷ r) = ⊎_elim (λ q. rw q) (λ q. rw q (any-has x r)) (decided (eqb b x))

-- ---- the digits

-- n numbers in a row, from k on, in front of r
run : ℕ → ℕ → List ℕ → List ℕ
run zero k r = r
run (suc n) k r = k ∷ run n (k + 1) r

run-has : (n k b : ℕ) (r : List ℕ) → k ≤ b → b < k + n → has b (run n k r) ≡ true
unfolding has run
run-has zero k b r l h = absurd (omega arith)
run-has (suc n) k b r l h = ⊎_elim (λ q. rw q) (λ q. rw q (run-has n (k + 1) b r (on q) (omega arith))) (decided (eqb k b))
  where
    on : eqb k b ≡ false → k + 1 ≤ b
    on q = ⊎_elim (λ m. omega arith) (λ m. absurd (true-false (eq-eqb k b (omega arith)) q)) (below_or k b)

-- a digit is a byte of the alphabet
pub digit-has : (b : ℕ) → (leb 48 b && leb b 57) ≡ true → has b alphabet ≡ true
unfolding has run
digit-has b d =
    let low : 48 ≤ b = leb-true 48 b (and_left (leb 48 b) _ d) in
    let high : b ≤ 57 = leb-true b 57 (and_right (leb 48 b) _ d) in
    rw (ne_eqb 10 b (λ q. omega arith), ne_eqb 32 b (λ q. omega arith), ne_eqb 45 b (λ q. omega arith), ne_eqb 46 b (λ q. omega arith))
    (run-has 10 48 b (63 ∷ 66 ∷ 82 ∷ 71 ∷ 76 ∷ 89 ∷ 86 ∷ 81 ∷ []) low (omega arith))

-- the first byte that is not of the alphabet, by its place among those of l
pub first-strange : (x : Edition) (l : List ℕ) (e : ℕ) → length l ≡ e → (r : Option ℕ)
    → MatchOption r (AllWithin (λ b. has b (alphabet_of x) ≡ true) l 0 (length l))
    (λ i. (i < length l) × HoldsAt (λ b. has b (alphabet_of x) ≡ false) l i × AllWithin (λ b. has b (alphabet_of x) ≡ true) l 0 i)
    → MatchOption r (e ≤ known_of x l) (λ p. (p ≡ known_of x l) × (p < e))
unfolding known_of
first-strange x l e n r h = go r h (index_from_first (known_of x) (λ b. has b (alphabet_of x) ≡ false) (λ b. has b (alphabet_of x) ≡ true) refl (λ b m q. rw q) (λ b m q. rw q (omega arith)) l r h)
  where
    go : (r : Option ℕ)
        → MatchOption r (AllWithin (λ b. has b (alphabet_of x) ≡ true) l 0 (length l))
        (λ i. (i < length l) × HoldsAt (λ b. has b (alphabet_of x) ≡ false) l i × AllWithin (λ b. has b (alphabet_of x) ≡ true) l 0 i)
        → known_of x l ≡ unwrap_or r (length l) → MatchOption r (e ≤ known_of x l) (λ p. (p ≡ known_of x l) × (p < e))
    go None h k = omega arith
    go (Some i) h k = (sym k, omega (arith, h.0))

-- ---- byte by byte

-- a byte is of 01's alphabet where it is found among its 22
pub known_is : (b p : ℕ) → Found alphabet 0 22 b p → ltb p 22 ≡ has b alphabet
known_is b p f = ⊎_elim (λ h. lt-ltb p 22 h ∙ sym (f.hit h)) (λ h. le-ltb p 22 h ∙ sym (f.none h)) (below_or p 22)

module _ (x : Edition) (s : List ℕ) (i e : ℕ) where
  pub known_on : i < e → e ≤ length s → has (get_or s i 0) (alphabet_of x) ≡ true → known_of x (slice i e s) ≡ suc (known_of x (slice (i + 1) e s))
  unfolding known_of
  known_on h k q = rw (slice-step s i e h k, q)

  pub known-stop : i < e → e ≤ length s → has (get_or s i 0) (alphabet_of x) ≡ false → known_of x (slice i e s) ≡ 0
  unfolding known_of
  known-stop h k q = rw (slice-step s i e h k, q)

  pub known-end : i ≡ e → known_of x (slice i e s) ≡ 0
  unfolding known_of
  known-end q = rw (slice-none s i e q)

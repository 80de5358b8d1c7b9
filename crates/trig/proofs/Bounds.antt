-- What the two tests of `sin_cos` say: that x is at least -1024 and at most 1024, or else that it lies outside or is NaN. Assumes nothing.
use Rattle.std.proofs.Common.{◌≡◌, ℕ, ◌+◌, ◌*◌, ◌<◌, Bool, true, false, not, ◌&&◌, ◌||◌, eqb, ltb, ℤ, pos, sym, refl, ◌∙◌, subst, inl, inr, true≢false, le_of_eq, le_of_lt, lt_irrefl, eq-or-lt_of_le, arith, ltb-false, ltb-true, le-ltb, lt-ltb, eq-eqb, ne_eqb}
use lib.Ieee.{Float, nan, inf, fin, up, down, lt, le, is_nan, of_int}
use lib.Ieee.Fits.{down_pos}
use borrow.Author.Tests.{not-true, not-false}
use Rattle.real.specs.Real.{absolute}
use Rattle.trig.specs.Sine.{outside}

-- a < b or a = b, or else b < a
le_is : (a b : ℕ) (q : Bool) → (a ≡ b → q ≡ true) → ((a ≡ b → ⊥) → q ≡ false) → (ltb a b || (q && true)) ≡ not (ltb b a)
le_is a b q same-q other-q = go (ltb a b) refl
  where
    same : a ≡ b → (q && true) ≡ not (ltb b a)
    same e = rw (same-q e, le-ltb b a (le_of_eq e))

    more : b < a → (q && true) ≡ not (ltb b a)
    more l = rw (other-q (λ e. lt_irrefl b (subst (λ (k : ℕ). b < k) e l)), lt-ltb b a l)

    go : (p : Bool) → ltb a b ≡ p → (p || (q && true)) ≡ not (ltb b a)
    go true e = rw (le-ltb b a (le_of_lt (ltb-true a b e)))
    go false e = elim (eq-or-lt_of_le (ltb-false a b e)) [ inl k ↦ same (sym k) | inr l ↦ more l ]

-- each test at a double of each sign: one side of it is known, and the other is that of the size
module _ (m : ℕ) (e : ℤ) where
  above-test : le (fin false m e) (fin false 1 (pos 10)) ≡ not (ltb (1024 * down e) (m * up e * 1))
  unfolding le
  above-test =
      le_is (m * up e * 1) (1024 * down e) (eqb (m * up e * 1) (1024 * down e)) (eq-eqb (m * up e * 1) (1024 * down e)) (ne_eqb (m * up e * 1) (1024 * down e))

  below-test : le (fin true 1 (pos 10)) (fin true m e) ≡ not (ltb (1024 * down e) (m * up e * 1))
  unfolding le
  below-test =
      le_is (m * up e * 1) (1024 * down e) (eqb (1024 * down e) (m * up e * 1)) (λ p. eq-eqb (1024 * down e) (m * up e * 1) (sym p)) (λ n. ne_eqb (1024 * down e) (m * up e * 1) (λ p. n (sym p)))

  above-passes : le (fin true 1 (pos 10)) (fin false m e) ≡ true
  unfolding le
  above-passes = let d = down_pos e in rw (lt-ltb 0 (1024 * down e + m * up e * 1) (omega arith))

  below-passes : le (fin true m e) (fin false 1 (pos 10)) ≡ true
  unfolding le
  below-passes = let d = down_pos e in rw (lt-ltb 0 (m * up e * 1 + 1024 * down e) (omega arith))

pub low-fails : (x : Float) → le (fin true 1 (pos 10)) x ≡ false → outside x ≡ true
unfolding outside absolute is_nan of_int lt le
low-fails nan e = refl
low-fails (inf s) e = refl
low-fails (fin false m d) e = absurd (true≢false (sym (above-passes m d) ∙ e))
low-fails (fin true m d) e = not-false (ltb (1024 * down d) (m * up d * 1)) (sym (below-test m d) ∙ e)

pub high-fails : (x : Float) → le x (fin false 1 (pos 10)) ≡ false → outside x ≡ true
unfolding outside absolute is_nan of_int lt le
high-fails nan e = refl
high-fails (inf s) e = refl
high-fails (fin true m d) e = absurd (true≢false (sym (below-passes m d) ∙ e))
high-fails (fin false m d) e = not-false (ltb (1024 * down d) (m * up d * 1)) (sym (above-test m d) ∙ e)

pub both-pass : (x : Float) → le (fin true 1 (pos 10)) x ≡ true → le x (fin false 1 (pos 10)) ≡ true → outside x ≡ false
unfolding outside absolute is_nan of_int lt le
both-pass nan l h = absurd (true≢false (sym l))
both-pass (inf true) l h = absurd (true≢false (sym l))
both-pass (inf false) l h = absurd (true≢false (sym h))
both-pass (fin true m d) l h = not-true (ltb (1024 * down d) (m * up d * 1)) (sym (below-test m d) ∙ l)
both-pass (fin false m d) l h = not-true (ltb (1024 * down d) (m * up d * 1)) (sym (above-test m d) ∙ h)

-- What a test tells, and how two numbers can stand to each other: laws that the proofs of all crates share. Assumes nothing.
use Rattle.std.specs.Prelude.{ℕ, suc, ◌≤◌, ◌<◌, ◌≡◌, refl, Bool, true, false, ◌&&◌, ◌||◌, cond, ◌⊎◌, eqb, ltb}
use Rattle.std.proofs.Common.{sym, ◌∙◌, true≢false, inl, inr, ⊎_elim, arith, le_of_suc-le-suc, eq-or-lt_of_le, eqb-true, ltb-true, ltb-false}
use Rattle.std.proofs.lemmas.Bool.{eqb-false}

-- ---- one test

pub decided : (t : Bool) → (t ≡ true) ⊎ (t ≡ false)
decided true = inl refl
decided false = inr refl

pub true-false : {t : Bool} → t ≡ true → t ≡ false → ⊥
true-false p q = true≢false (sym p ∙ q)

-- what holds of both holds of the one that a test picks
pub cond_either : {A : Type 0} (P : A → Type 0) (t : Bool) {x y : A} → P x → P y → P (cond t x y)
cond_either P true h k = h
cond_either P false h k = k

-- what an equation between unlike cases of a type comes to (`cc` finds it)
pub no-case : {A : Type 0} → ◌≡◌ {A = ℕ} 0 1 → A
no-case h = absurd (omega arith)

-- ---- two tests

pub and_left : (a b : Bool) → a && b ≡ true → a ≡ true
and_left true b h = refl
and_left false b h = h

pub and_right : (a b : Bool) → a && b ≡ true → b ≡ true
and_right true b h = h
and_right false b h = absurd (true-false h refl)

-- both hold: `◌&&◌` kept shut, so that the parts of a long check are found by their places
unfoldable pub both : Bool → Bool → Bool
both a b = a && b

pub both_l : (a b : Bool) → both a b ≡ true → a ≡ true
unfolding both
both_l a b h = and_left a b h

pub both_r : (a b : Bool) → both a b ≡ true → b ≡ true
unfolding both
both_r a b h = and_right a b h

pub nor-left : (a b : Bool) → (a || b) ≡ false → a ≡ false
nor-left false b h = refl
nor-left true b h = h

pub nor-right : (a b : Bool) → (a || b) ≡ false → b ≡ false
nor-right false b h = h
nor-right true b h = absurd (true≢false h)

pub or-first : {a : Bool} (b : Bool) → a ≡ true → (a || b) ≡ true
or-first b h = rw h

pub or-last : (a : Bool) {b : Bool} → b ≡ true → (a || b) ≡ true
or-last true h = refl
or-last false h = h

-- ---- two numbers

pub same_or_not : (a b : ℕ) → (a ≡ b) ⊎ (a ≡ b → ⊥)
same_or_not a b = go (eqb a b) refl
  where
    go : (t : Bool) → eqb a b ≡ t → (a ≡ b) ⊎ (a ≡ b → ⊥)
    go true e = inl (eqb-true a b e)
    go false e = inr (eqb-false a b e)

pub below_or : (a b : ℕ) → (a < b) ⊎ (b ≤ a)
below_or a b = ⊎_elim (λ t. inl (ltb-true a b t)) (λ t. inr (ltb-false a b t)) (decided (ltb a b))

pub same-or-below : {i k : ℕ} → i < suc k → (i ≡ k) ⊎ (i < k)
same-or-below p = eq-or-lt_of_le (le_of_suc-le-suc p)

-- What the answers of tests say, one and several together, and what a turn over the input has found. Assumes nothing.
use Rattle.std.specs.Prelude.{ℕ, ◌≡◌, refl, Bool, true, false, not, ◌&&◌, eqb, Some, None}
use Rattle.std.proofs.Common.{sym, ◌∙◌, true≢false, eq-eqb, eqb-true}
use Rattle.std.proofs.lemmas.Bool.{not-true}
use Rattle.real.specs.Tests.{true-false}
use Rattle.vectors.specs.Words.{Tells, Found}

-- ---- tests

pub equal-told : (m n : ℕ) → Tells (eqb m n) (m ≡ n)
equal-told m n = (eqb-true m n, eq-eqb m n)

pub never-told : {P : Type 0} → (P → ⊥) → Tells false P
never-told h = (λ e. absurd (true≢false (sym e)), λ p. absurd (h p))

infixl 6 ◌and◌
pub ◌and◌ : {P Q : Type 0} {a b : Bool} → Tells a P → Tells b Q → Tells (a && b) (P × Q)
◌and◌ {a = true} p q = (λ e. (p.0 refl, q.0 e), λ h. q.1 h.1)
◌and◌ {a = false} p q = never-told (λ h. true-false (p.1 h.0) refl)

-- a test that failed, of something that P needs
pub not-told : {P Q : Type 0} (b : Bool) → Tells b Q → not b ≡ true → (P → Q) → Tells false P
not-told b t e f = never-told (λ p. true-false (t.1 (f p)) (not-true b e))

-- the last test
pub last-told : {P Q : Type 0} {b : Bool} → Tells b Q → (P → Q) → (Q → P) → Tells b P
last-told t f g = (λ e. g (t.0 e), λ p. t.1 (f p))

-- what is told of a value is told of the same one
pub same-told : {A : Type 0} {x y z : A} {b : Bool} → x ≡ y → Tells b (x ≡ z) → Tells b (y ≡ z)
same-told e t = last-told t (λ f. e ∙ f) (λ f. sym e ∙ f)

-- ---- a turn

pub found-agreed : {P : Type 0} → P → Found (Some true) P
found-agreed p = (λ e. p, λ q. refl)

pub found-differed : {P : Type 0} → (P → ⊥) → Found (Some false) P
found-differed h = never-told h

pub found-told : {P : Type 0} (b : Bool) → Tells b P → Found (Some b) P
found-told b t = t

-- no whole record, so nothing is said of it
pub no_record : (P : Type 0) → Found None P
no_record P = tt

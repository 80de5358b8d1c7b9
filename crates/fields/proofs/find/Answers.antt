-- `fields::find` meets its contract: what stands before the first x is as long as the place that `position` gives. Assumes nothing.
use Rattle.std.proofs.Common.{◌≡◌, ℕ, ◌+◌, ◌-◌, ◌<◌, List, length, take, drop, Option, Some, None, MatchOption, unwrap_or, refl, ap, arith, rules, eq-eqb, ne_eqb}
use borrow.Author.Tests.{tests}
use Rattle.std.specs.List.{AllWithin, HoldsAt}
use Rattle.std.proofs.lemmas.Iterator.{YieldsList-from_slice, IsFirst-from_position, index_from_first}
use Rattle.std.proofs.Math.Seq.{length-slice}
use Rattle.fields.specs.Cut.{upto}
use Rattle.fields.specs.Cut.Laws.{found, slice-part}
use Rattle.fields.proofs.find.Goals as goal

-- the bytes before the first x, counted by its place
before-first : (x : ℕ) (l : List ℕ) (r : Option ℕ)
    → MatchOption r (AllWithin (λ b. b ≡ x → ⊥) l 0 (length l)) (λ i. (i < length l) × HoldsAt (λ b. b ≡ x) l i × AllWithin (λ b. b ≡ x → ⊥) l 0 i)
    → length (upto x l) ≡ unwrap_or r (length l)
unfolding upto
before-first x l r h =
    index_from_first (λ m. length (upto x m)) (λ b. b ≡ x) (λ b. b ≡ x → ⊥) refl
    (λ b m q. rw (eq-eqb b x q)) (λ b m q. rw (ne_eqb b x q) (omega arith)) l r h

pub returns-in-Some : goal.returns-in-Some
returns-in-Some c =
    let a = c.args in
    let l = take (a.e - a.a) (drop a.a a.s.now) in
    let b : length (upto a.x l) ≡ c.in-Some.k = before-first a.x l (Some c.in-Some.k)
    (IsFirst-from_position _ _ _ (λ b. b ≡ a.x) (λ b. b ≡ a.x → ⊥) c.in-Some.ensures.ran (YieldsList-from_slice l cc) (λ b q k. search (rules, tests)) (λ b q k. search (rules, tests))) in
    found a.s.now a.a a.e a.x (omega arith) (omega arith) (a.a + c.in-Some.k) (omega (arith, b, ap (λ l. length (upto a.x l)) (slice-part a.s.now a.a a.e (omega arith))))

pub returns-in-None : goal.returns-in-None
returns-in-None c =
    let a = c.args in
    let l = take (a.e - a.a) (drop a.a a.s.now) in
    let b : length (upto a.x l) ≡ length l = before-first a.x l None
    (IsFirst-from_position _ _ _ (λ b. b ≡ a.x) (λ b. b ≡ a.x → ⊥) c.in-None.ensures.ran (YieldsList-from_slice l cc) (λ b q k. search (rules, tests)) (λ b q k. search (rules, tests))) in
    let p = slice-part a.s.now a.a a.e (omega arith) in
    found a.s.now a.a a.e a.x (omega arith) (omega arith) a.e (omega (arith, b, ap (λ l. length (upto a.x l)) p, ap length p, length-slice a.a a.e a.s.now (omega arith)))

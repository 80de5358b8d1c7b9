-- `case_text::known` meets its contract: K is the second edition's, and every other byte as the first edition has it. Assumes nothing.
use Rattle.std.specs.Prelude.{◌≡◌, ℕ, true, false, ◌∷◌, eqb}
use Rattle.std.proofs.Common.{sym, ⊎_elim, ◌∙◌, eq-eqb, eqb-true, ne_eqb}
use Rattle.real.specs.Tests.{decided, true-false}
use Rattle.fields.specs.Cut.{has}
use Rattle.case_text.specs.Alphabet.{alphabet}
use Rattle.case_text.proofs.known.Goals as goal

module _ (b : ℕ) where
  with-known : has b alphabet ≡ true → has b (75 ∷ alphabet) ≡ true
  unfolding has
  with-known h = ⊎_elim (λ q. rw q) (λ q. rw q h) (decided (eqb 75 b))

  with-strange : has b alphabet ≡ false → has b (75 ∷ alphabet) ≡ eqb b 75
  unfolding has
  with-strange h =
      ⊎_elim
      (λ q. rw q (sym (eq-eqb b 75 (sym (eqb-true 75 b q)))))
      (λ q. rw q (h ∙ sym (ne_eqb b 75 (λ e. true-false (eq-eqb 75 b (sym e)) q))))
      (decided (eqb 75 b))

pub returns-then-known_first : goal.returns-then-known_first
returns-then-known_first c = rw c.in-Second.is (c.if-known_first.true ∙ sym (with-known c.args.b (sym c.known_first-in-Second.ensures ∙ c.if-known_first.true)))

pub returns-else-known_first : goal.returns-else-known_first
returns-else-known_first c = rw c.in-Second.is (sym (with-strange c.args.b (sym c.known_first-in-Second.ensures ∙ c.if-known_first.false)))

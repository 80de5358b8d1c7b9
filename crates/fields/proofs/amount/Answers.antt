-- `fields::amount` meets its contract: the ways are those of the definition, since no more than 15 digits count exactly where the number is below 10^15.
-- Assumes nothing.
use Rattle.std.proofs.Common.{◌≡◌, false, List, [], ◌∷◌, ℕ, length, Some, refl, sym, ap, ◌∙◌, arith, rules}
use borrow.Author.Tests.{eqb-true, eqb-false}
use Rattle.fields.specs.Cut.{empty}
use Rattle.fields.specs.Real.Laws.{no-digits, many-decimals, whole-wrong, rest-wrong, first_below_lem, second_below, value}
use Rattle.fields.proofs.amount.Goals as goal

nothing : (l : List ℕ) → length l ≡ 0 → l ≡ []
nothing [] h = refl
nothing (b ∷ r) h = absurd (omega arith)

some : (l : List ℕ) → (length l ≡ 0 → ⊥) → empty l ≡ false
some [] h = absurd (h refl)
some (b ∷ r) h = refl

pub returns-then-is_empty : goal.returns-then-is_empty
returns-then-is_empty c = rw (nothing c.args.w.now (eqb-true _ 0 (sym c.is_empty.ensures ∙ c.if-is_empty.true))) (sym (no-digits c.args.d.now))

pub returns-then-k-gt22 : goal.returns-then-k-gt22
returns-then-k-gt22 c = sym (many-decimals c.args.w.now c.args.d.now c.if-k-gt22.true)

pub returns-in_err-n : goal.returns-in_err-n
returns-in_err-n c = c.from_residual.ensures ∙ sym (whole-wrong _ _ (sym c.in_err-n.ensures))

-- the digits before the point are a number
pub whole-requires-2 : goal.whole-requires-2
whole-requires-2 c = first_below_lem c.args.w.now c.args.d.now _ (sym c.in_ok-n.ensures)

pub returns-in_err-m : goal.returns-in_err-m
returns-in_err-m c = c.from_residual-in_err-m.ensures ∙ sym (rest-wrong _ _ _ (sym c.in_ok-n.ensures) (sym c.in_err-m.ensures))

-- and those behind it are one after that
pub scaled-requires : goal.scaled-requires
scaled-requires c = (second_below _ _ _ (sym c.in_ok-n.ensures) _ (sym c.in_ok-m.ensures), search rules)

pub returns : goal.returns
returns c =
    ap Some c.scaled.ensures
    ∙ sym (value _ _ _ (sym c.in_ok-n.ensures) _ (sym c.in_ok-m.ensures) (some c.args.w.now (eqb-false _ 0 (sym c.is_empty.ensures ∙ c.if-is_empty.false))) c.if-k-gt22.false)

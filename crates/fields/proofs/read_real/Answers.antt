-- `fields::read_real` meets its contract: the first byte tells whether there is a minus. Assumes nothing.
use Rattle.std.proofs.Common.{◌≡◌, ℕ, ◌<◌, List, [], ◌∷◌, length, get_or, drop, Option, Some, None, MatchOption, IsSomeAnd, Float, refl, sym, ap, ◌∙◌, arith, rules, eq-eqb, ne_eqb}
use Rattle.std.specs.Float.Ieee.{neg}
use Rattle.std.proofs.lemmas.List.{take_rest}
use Rattle.fields.specs.Cut.{has}
use Rattle.fields.specs.Real.{amount_by, negated_of, unsigned_of, real_of}
use Rattle.fields.proofs.read_real.Goals as goal
use Rattle.fields.proofs.read_real.Goals.{else-f-gt0-via-then-f-gt0+else-f-eq45, else-f-gt0-via-else-f-gt0}

-- what `map` gives of the real behind the minus
mapped : {Gives : Float → Float → Type 0} (o r : Option Float) → ((x y : Float) → Gives x y → y ≡ neg x)
    → MatchOption o (r ≡ None) (λ x. IsSomeAnd r (Gives x)) → r ≡ negated_of o
mapped None r g h = h
mapped (Some x) None g h = absurd h
mapped (Some x) (Some y) g h = ap Some (g x y h)

signed : (l : List ℕ) → 0 < length l → get_or l 0 0 ≡ 45 → real_of l ≡ negated_of (unsigned_of (drop 1 l))
signed [] h k = absurd (omega arith)
signed (b ∷ r) h k = rw (eq-eqb b 45 k)

plain : (l : List ℕ) → (0 < length l → get_or l 0 0 ≡ 45 → ⊥) → real_of l ≡ unsigned_of l
unfolding has amount_by
plain [] h = refl
plain (b ∷ r) h = rw (ne_eqb b 45 (h (omega arith)))

pub returns-then-f-eq45 : goal.returns-then-f-eq45
returns-then-f-eq45 c =
    let f = c.args.f.now in
    mapped c.unsigned.result c.map.result (λ x y h. search rules) c.map.ensures.cases
    ∙ ap negated_of (c.unsigned.ensures ∙ ap unsigned_of (take_rest f 1)) ∙ sym (signed f c.if-f-gt0.true c.if-f-eq45.true)

pub returns : goal.returns
returns c =
    let f = c.args.f.now in
    elim c.else-f-gt0.branch [
      | else-f-gt0-via-then-f-gt0+else-f-eq45 w ↦ c.unsigned-2.ensures ∙ sym (plain f (λ h. w.if-f-eq45.false))
      | else-f-gt0-via-else-f-gt0 w ↦ c.unsigned-2.ensures ∙ sym (plain f (λ h. absurd (omega arith)))
    ]

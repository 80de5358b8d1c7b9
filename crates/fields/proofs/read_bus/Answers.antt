-- `fields::read_bus` meets its contract: the ways are those of the definition. Assumes nothing.
use Rattle.std.proofs.Common.{◌≡◌, refl, ℕ, List, [], ◌∷◌, None, ◌≤◌, ◌<◌, length, get_or, sym, ◌∙◌, arith, eq-eqb, ne_eqb, le-leb}
use Rattle.std.proofs.lemmas.Bool.{lt-leb}
use Rattle.std.proofs.Math.Bool.{and-false}
use Rattle.fields.specs.Digits.{limited_of, bus_of}
use Rattle.fields.specs.Digits.Laws.{limited-short}
use Rattle.fields.proofs.read_bus.Goals as goal
use Rattle.fields.proofs.read_bus.Goals.{then-n-eq0-via-then-n-eq0, then-n-eq0-via-else-n-eq0+then-n-gt3, else-f-eq48-via-then-f-eq48+else-n-gt1, else-f-eq48-via-else-f-eq48}

none : (l : List ℕ) → length l ≡ 0 → bus_of l ≡ None
none [] h = refl
none (b ∷ r) h = absurd (omega arith)

long : (l : List ℕ) → 3 < length l → bus_of l ≡ None
long [] h = absurd (omega arith)
long (b ∷ r) h = rw (lt-leb (length r) 2 (omega arith))

led : (l : List ℕ) → get_or l 0 0 ≡ 48 → 1 < length l → bus_of l ≡ None
led [] h k = absurd (omega arith)
led (b ∷ []) h k = absurd (omega arith)
led (b ∷ d ∷ r) h k = rw (eq-eqb b 48 h, and-false)

one : (l : List ℕ) → get_or l 0 0 ≡ 48 → length l ≡ 1 → bus_of l ≡ limited_of 0 l
one [] h k = absurd (omega arith)
one (b ∷ []) h k = sym (limited-short (b ∷ []) (omega arith) ∙ rw (eq-eqb b 48 h))
one (b ∷ d ∷ r) h k = absurd (omega arith)

few : (l : List ℕ) → (get_or l 0 0 ≡ 48 → ⊥) → 0 < length l → length l ≤ 3 → bus_of l ≡ limited_of 0 l
few [] h p k = absurd (omega arith)
few (b ∷ r) h p k = sym (limited-short (b ∷ r) (omega arith) ∙ rw (le-leb (length r) 2 (omega arith), ne_eqb b 48 h))

pub returns-then-n-eq0 : goal.returns-then-n-eq0
returns-then-n-eq0 c =
    elim c.then-n-eq0.branch [
      | then-n-eq0-via-then-n-eq0 w ↦ sym (none c.args.f.now (omega arith))
      | then-n-eq0-via-else-n-eq0+then-n-gt3 w ↦ sym (long c.args.f.now (omega arith))
    ]

pub returns-then-n-gt1 : goal.returns-then-n-gt1
returns-then-n-gt1 c = sym (led c.args.f.now c.if-f-eq48.true (omega arith))

pub returns : goal.returns
returns c =
    elim c.else-f-eq48.branch [
      | else-f-eq48-via-then-f-eq48+else-n-gt1 w ↦ c.whole.ensures ∙ sym (one c.args.f.now w.if-f-eq48.true (omega arith))
      | else-f-eq48-via-else-f-eq48 w ↦ c.whole.ensures ∙ sym (few c.args.f.now w.if-f-eq48.false (omega arith) (omega arith))
    ]

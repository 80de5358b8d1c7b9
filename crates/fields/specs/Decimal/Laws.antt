-- A real's value is the decimal that it writes, rounded once: the double nearest to it, ties to even. For the digits that may count are a whole number below
-- 10^15 and the decimals' power of ten is at most 10^22, so both are doubles, and their quotient is rounded once. Assumes nothing.
use Rattle.std.specs.Prelude.{◌≡◌, refl, Bool, true, false, cond, List, [], ◌∷◌, ℕ, ◌*◌, ◌^◌, ◌<◌, eqb, Float, length, None, Option, Some}
use Rattle.std.proofs.Common.{sym, ◌∙◌, ⊎_elim, mul-one, mul_assoc, mul_comm, mul_left_comm, mul-pos, lt_irrefl, zero-mul, arith, lit<, ne_eqb}
use Rattle.std.proofs.Math.Nat.{one-le-pow}
use Rattle.std.specs.Float.{nan, inf, fin, Format, binary64}
use Rattle.std.specs.Float.Ieee.{up, down, neg, round, div, of_int}
use Rattle.std.specs.Float.Ieee.Fits.{down_pos}
use Rattle.std.specs.Float.Ieee.Exact.{HasValue}
use Rattle.std.specs.Float.Ieee.Back.{round_whole}
use Rattle.std.specs.Float.Ieee.Scale.{round_same}
use Rattle.real.specs.Tests.{decided, true-false, no-case}
use Rattle.real.specs.Literals.{double}
use Rattle.real.proofs.Rounding.{neg-round}
use Rattle.fields.specs.Cut.{upto, past, has, empty}
use Rattle.fields.specs.Cut.Laws.{empty-is, has-not, past-none}
use Rattle.fields.specs.Digits.{digits, number}
use Rattle.fields.specs.Powers.Laws.{power-exact}
use Rattle.fields.specs.Real.{allowed, value_of, negated_of, amount_by, pointed_by, amount_of, unsigned_of, real_of}
use Rattle.fields.specs.Real.Laws.{no-digits, too_many, not-whole, not-decimals, few-decimals, number_small}
use Rattle.fields.specs.Decimal.{has_minus, wholes, decimals, numerator, denominator}

-- ---- a quotient of whole doubles is rounded once

div-whole : (f : Format) (x y : Float) (a b : ℕ) → 0 < b → HasValue x false a 1 → HasValue y false b 1 → div f x y ≡ round f false a b
unfolding div
div-whole f nan y a b B p q = absurd p
div-whole f (inf s) y a b B p q = absurd p
div-whole f (fin true m e) y a b B p q = absurd (true-false refl p.0)
div-whole f (fin false m e) nan a b B p q = absurd q
div-whole f (fin false m e) (inf t) a b B p q = absurd q
div-whole f (fin false m e) (fin true n d) a b B p q = absurd (true-false refl q.0)
div-whole f (fin false m e) (fin false n d) a b B p q =
    let u : m * up e ≡ a * down e = sym (mul-one (m * up e)) ∙ p.1 in
    let v : n * up d ≡ b * down d = sym (mul-one (n * up d)) ∙ q.1 in
    let P : 0 < n * up d = rw v (mul-pos B (down_pos d)) in
    let z : (n ≡ 0 → ⊥) = λ g. lt_irrefl 0 (rw (g, zero-mul) at P) in
    let c : m * up e * down d * b ≡ a * (n * up d * down e) = rw (u, v) (simp (mul_assoc, mul_comm, mul_left_comm)) in
    rw (ne_eqb n 0 z) (round_same f false (m * up e * down d) (n * up d * down e) a b (mul-pos P (down_pos e)) B c)

-- ---- what a value says of the digits

pub record Written (w d : List ℕ) (x : Float) : Type 0 where
  pub few : allowed w d ≡ true
  pub whole : digits w ≡ true
  pub rest : digits d ≡ true
  pub value : x ≡ value_of w d

module _ (w d : List ℕ) (x : Float) (h : amount_of w d ≡ Some x) where
  never : {A : Type 0} → amount_of w d ≡ None → A
  never g = let e : Some x ≡ None = sym h ∙ g in no-case cc

  few-written : allowed w d ≡ true
  few-written = ⊎_elim (λ q. q) (λ q. never (too_many allowed w d q)) (decided (allowed w d))

  whole-written : digits w ≡ true
  whole-written = ⊎_elim (λ q. q) (λ q. never (not-whole w d q)) (decided (digits w))

  rest-written : digits d ≡ true
  rest-written = ⊎_elim (λ q. q) (λ q. never (not-decimals w d q)) (decided (digits d))

  some_written : empty w ≡ false
  some_written = ⊎_elim (λ q. never (rw (empty-is w q) (no-digits d))) (λ q. q) (decided (empty w))

  amount-written : Written w d x
  unfolding amount_by
  amount-written =
      let e : Some (value_of w d) ≡ Some x = rw (some_written, whole-written, rest-written, few-written) at h in
      record { few = few-written; whole = whole-written; rest = rest-written; value = cc }

-- a field without a minus
unsigned-written : (l : List ℕ) (x : Float) → unsigned_of l ≡ Some x → Written (upto 46 l) (past 46 l) x
unsigned-written l x h = ⊎_elim (λ q. pointed-written (rw q at h)) plain (decided (has 46 l))
  where
    pointed-written : pointed_by allowed l ≡ Some x → Written (upto 46 l) (past 46 l) x
    pointed-written g =
        ⊎_elim (λ e. let f : None ≡ Some x = rw e at g in no-case cc) (λ e. amount-written (upto 46 l) (past 46 l) x (rw e at g)) (decided (empty (past 46 l)))

    plain : has 46 l ≡ false → Written (upto 46 l) (past 46 l) x
    plain q = rw (has-not 46 l q, past-none 46 l q) (amount-written l [] x (rw q at h))

-- its digits are a whole number below 10^15
pub written_small : (w d : List ℕ) (x : Float) → Written w d x → number (number 0 w) d < 10 ^ 15
written_small w d x k = number_small w d k.whole k.rest k.few

-- so it and the power of ten are doubles, and the value is the fraction, rounded once
written-exact : (w d : List ℕ) (x : Float) → Written w d x
    → HasValue (double (number (number 0 w) d)) false (number (number 0 w) d) 1 × HasValue (double (10 ^ length d)) false (10 ^ length d) 1
unfolding of_int
written-exact w d x k = (round_whole binary64 false (number (number 0 w) d) (omega (arith, written_small w d x k)), power-exact (length d) (few-decimals w d k.few))

pub written-rounded : (w d : List ℕ) (x : Float) → Written w d x → x ≡ round binary64 false (number (number 0 w) d) (10 ^ length d)
written-rounded w d x k =
    let e = written-exact w d x k in
    k.value ∙ div-whole binary64 _ _ (number (number 0 w) d) (10 ^ length d) (one-le-pow (length d) 10 (lit< tt)) e.0 e.1

-- ---- the field

negated-value : (r : Option Float) (x : Float) → negated_of r ≡ Some x → (y : Float) × (r ≡ Some y) × (x ≡ neg y)
negated-value (Some y) x h = (y, refl, cc)
negated-value None x h = no-case cc

-- a real's digits, whose value a minus negates
pub real-written : (l : List ℕ) (x : Float) → real_of l ≡ Some x → (y : Float) × Written (wholes l) (decimals l) y × (x ≡ cond (has_minus l) (neg y) y)
real-written [] x h = no-case cc
real-written (b ∷ r) x h = ⊎_elim signed (λ q. (x, rw q (unsigned-written (b ∷ r) x (rw q at h)), rw q)) (decided (eqb b 45))
  where
    signed : eqb b 45 ≡ true → (y : Float) × Written (wholes (b ∷ r)) (decimals (b ∷ r)) y × (x ≡ cond (eqb b 45) (neg y) y)
    signed q = let v = negated-value (unsigned_of r) x (rw q at h) in (v.0, rw q (unsigned-written r v.0 v.1), rw q v.2)

pub signed_round : (s : Bool) (a b : ℕ) → cond s (neg (round binary64 false a b)) (round binary64 false a b) ≡ round binary64 s a b
signed_round true a b = neg-round binary64 false a b
signed_round false a b = refl

-- the two numbers that are divided are doubles
pub real-exact : (l : List ℕ) (x : Float) → real_of l ≡ Some x
    → HasValue (double (numerator l)) false (numerator l) 1 × HasValue (double (denominator l)) false (denominator l) 1
real-exact l x h = let v = real-written l x h in written-exact (wholes l) (decimals l) v.0 v.1

-- Bytes after bytes, digits, and the parts of a refusal. Assumes nothing.
use Rattle.std.proofs.Math.Seq.{length-take-le, take-suc}
use Rattle.std.specs.Prelude.{ℕ, zero, suc, ◌+◌, ◌*◌, ◌/◌, ◌%◌, ◌^◌, ◌-◌, ◌≤◌, ◌<◌, ◌≡◌, refl, Bool, true, false, cond, leb, ltb, length, get_or, set, take, Float}
use Rattle.std.proofs.Common.{sym, ◌∙◌, pow-suc, mod-eq_of_lt, arith, leb-true, leb-false, lt-ltb, le-ltb, length-append}
use Rattle.std.proofs.Math.Path.{ap}
use mathlib.Core.List.{List, [], ◌∷◌, ◌++◌, append_assoc, append-nil}
use Rattle.std.proofs.Math.Nat.{pow-le-pow_right}
use Rattle.std.proofs.lemmas.List.Edits.{sets}
use Rattle.std.specs.Float.{binary64}
use Rattle.std.specs.Float.Ieee.{is_nan, to_bits}
use Rattle.io.specs.Digits.{hex_digit_ascii, last_digits, IsDigitCount}
use Rattle.real.specs.declared.Value.{Value}
use Rattle.lines.specs.Lines.{decimal_by, printed_real, printed_value, printed_values, head_of, refused_line, Wrote}

-- ---- bytes after bytes

sets-append : (a b l : List ℕ) (i : ℕ) → sets (sets l i a) (i + length a) b ≡ sets l i (a ++ b)
sets-append [] b l i = let e : i + 0 ≡ i = omega arith in rw e refl
sets-append (x ∷ a) b l i = let e : i + suc (length a) ≡ suc i + length a = omega arith in rw e (sets-append a b (set l i x) (suc i))

pub nothing : (l : List ℕ) (at : ℕ) → Wrote l at [] at l
nothing l at = record { ends = omega arith; left = refl }

pub then : {l m n a b : List ℕ} {at k r : ℕ} → Wrote l at a k m → Wrote m k b r n → Wrote l at (a ++ b) r n
then {l} {m} {n} {a} {b} {at} {k} {r} u v = record {
  ends = rw length-append (omega (arith, u.ends, v.ends));
  left = v.left ∙ rw (u.left, u.ends) (sets-append a b l at);
}

pub exactly : {l m a : List ℕ} {at k : ℕ} → Wrote l at a k m → Wrote l at a k m × (k ≤ at + length a)
exactly u = (u, omega (arith, u.ends))

pub within : {l m n a b : List ℕ} {at k r : ℕ} (i j : ℕ) → Wrote l at a k m × (k ≤ at + i) → Wrote m k b r n × (r ≤ k + j) → Wrote l at (a ++ b) r n × (r ≤ at + (i + j))
within i j u v = (then u.0 v.0, omega (arith, u.1, v.1))

pub same_bytes : {l m a b : List ℕ} {at r : ℕ} → a ≡ b → Wrote l at a r m → Wrote l at b r m
same_bytes e w = rw (← e) w

-- one byte more of a source
pub one_more : (s l : List ℕ) (at i : ℕ) → i < length s → set (sets l at (take i s)) (at + i) (get_or s i 0) ≡ sets l at (take (suc i) s)
one_more s l at i h =
    let e : length (take i s) ≡ i = length-take-le i s (omega arith) in
    rw (take-suc s i 0 h) (rw e at (sets-append (take i s) (get_or s i 0 ∷ []) l at))

-- ---- decimals

ten-pos : (k : ℕ) → 0 < 10 ^ k
ten-pos zero = omega arith
ten-pos (suc k) = rw pow-suc (omega (arith, ten-pos k))

-- the fewest digits that hold n are its decimal digits
pub decimal-is : (k j n : ℕ) → IsDigitCount 10 1 n k → k ≤ j → last_digits 10 k n ≡ decimal_by j n
unfolding decimal_by
decimal-is zero j n h hk = absurd (omega (arith, h.0))
decimal-is (suc k) zero n h hk = absurd (omega arith)
decimal-is (suc zero) (suc j) n h hk =
    let p : n < 10 = h.1 in
    ap (λ (d : ℕ). hex_digit_ascii d ∷ []) (mod-eq_of_lt p) ∙ sym (ap (λ (t : Bool). cond t (hex_digit_ascii n ∷ []) (decimal_by j (n / 10) ++ (hex_digit_ascii (n % 10) ∷ []))) (lt-ltb n 10 p))
decimal-is (suc (suc k)) (suc j) n h hk =
    let e : suc (suc k) - 1 ≡ suc k = omega arith in
    let e' : suc k - 1 ≡ k = omega arith in
    let low : 10 ^ k * 10 ≤ n = rw (e, pow-suc) at (h.2 (omega arith)) in
    let high : n < 10 ^ k * 10 * 10 = rw (pow-suc, pow-suc) at h.1 in
    let one : 0 < 10 ^ k = ten-pos k in
    let q : ltb n 10 ≡ false = le-ltb n 10 (omega arith) in
    rw q (ap (λ (l : List ℕ). l ++ (hex_digit_ascii (n % 10) ∷ [])) (decimal-is (suc k) j (n / 10) (omega arith, rw pow-suc (omega arith), λ m. rw e' (omega arith)) (omega arith)))

-- a number that `most` digits hold has no more, unless more are asked for
pub fewest-fits : (b least most n k : ℕ) → 0 < b → least ≤ most → n < b ^ most → IsDigitCount b least n k → k ≤ most
fewest-fits b least most n k hb hl hn h = go (leb k most) refl
  where
    go : (t : Bool) → leb k most ≡ t → k ≤ most
    go true e = leb-true k most e
    go false e =
        let p = leb-false k most e in
        let most-digits : b ^ most ≤ b ^ (k - 1) = pow-le-pow_right hb (omega arith) in
        absurd (omega (arith, h.2 (omega arith)))

-- ---- reals

pub real-nan : (x : Float) → is_nan x ≡ true → 110 ∷ 97 ∷ 110 ∷ [] ≡ printed_real x
unfolding printed_real
real-nan x h = rw h refl

pub real-is : (x : Float) → is_nan x ≡ false → last_digits 16 16 (to_bits binary64 x) ≡ printed_real x
unfolding printed_real
real-is x h = rw h refl

-- ---- refusals

-- one value more
pub printed-more : (vs : List Value) (i : ℕ) (d : Value) → i < length vs → printed_values (take (suc i) vs) ≡ printed_values (take i vs) ++ printed_value (get_or vs i d)
unfolding printed_values
printed-more [] i d h = absurd (omega arith)
printed-more (v ∷ vs) zero d h = append-nil (printed_value v)
printed-more (v ∷ vs) (suc i) d h = rw (printed-more vs i d (omega arith)) (sym (append_assoc (printed_value v) (printed_values (take i vs)) (printed_value (get_or vs i d))))

-- the line of a refusal that has no value, one or two
module _ (n : ℕ) where
  pub bare : refused_line n [] ≡ head_of n ++ (10 ∷ [])
  unfolding refused_line printed_values
  bare = ap (λ (a : List ℕ). a ++ (10 ∷ [])) (append-nil (head_of n))

  pub one_value : (v : Value) → refused_line n (v ∷ []) ≡ head_of n ++ printed_value v ++ (10 ∷ [])
  unfolding refused_line printed_values
  one_value v = ap (λ (a : List ℕ). head_of n ++ a ++ (10 ∷ [])) (append-nil (printed_value v))

  pub two-values : (v u : Value) → refused_line n (v ∷ u ∷ []) ≡ head_of n ++ printed_value v ++ printed_value u ++ (10 ∷ [])
  unfolding refused_line printed_values
  two-values v u =
      ap (λ (a : List ℕ). head_of n ++ (printed_value v ++ a) ++ (10 ∷ [])) (append-nil (printed_value u))
      ∙ ap (λ (a : List ℕ). a ++ (10 ∷ [])) (sym (append_assoc (head_of n) (printed_value v) (printed_value u)))

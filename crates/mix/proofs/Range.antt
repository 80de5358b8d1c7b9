-- 01: the result of mix lies from -1 to 1, whatever the words. Assumes nothing.
use Rattle.std.proofs.Common.{◌≡◌, ℕ, ◌-◌, ◌*◌, ◌/◌, ◌^◌, ◌<◌, ◌≤◌, Bool, true, false, cond, ◌&&◌, ltb, pos, refl, subst, lt_of_le_of_lt, mod-lt, div-le_self, arith, lit<, ltb-false, ltb-true}
use lib.Bits.{bit_xor, xor_lt}
use lib.Ieee.{Float, nan, inf, fin, binary64, up, down, sub, mul, div, round, of_int}
use lib.Ieee.Fits.{down_pos}
use Rattle.real.specs.Literals.{double}
use Rattle.real.proofs.Rounding.{neg-round, AtMost, round-at-most, Small, small-above, small-below}
use Rattle.mix.specs.Noise.{times, folded, word_of, mix_of}

folded-lt : (x : ℕ) → x < 2 ^ 64 → folded x < 2 ^ 64
folded-lt x h = xor_lt 64 x (x / 2 ^ 33) h (lt_of_le_of_lt (div-le_self x (2 ^ 33)) h)

word_lt : (a b : ℕ) → word_of a b < 2 ^ 64
word_lt a b = folded-lt (times (folded (bit_xor (times a 0x9E37_79B9_7F4A_7C15) (times b 0xD1B5_4A32_D192_ED03))) 0xFF51_AFD7_ED55_8CCD) (mod-lt _ (lit< tt))

-- the word as a double
as-double : (w : ℕ) → w < 2 ^ 64 → AtMost (2 ^ 64) (double w)
unfolding of_int
as-double w h = round-at-most 64 w 1 (lit< tt) (omega arith) (unfold round in refl)

-- over 2 ^ 64
divided : (x : Float) → AtMost (2 ^ 64) x → AtMost 1 (div binary64 x (fin false 1 (pos 64)))
unfolding div
divided nan h = h
divided (inf s) h = absurd h
divided (fin true m e) h = absurd h
divided (fin false m e) h = round-at-most 0 (m * up e * 1) (1 * 2 ^ 64 * down e) (let d = down_pos e in omega arith) (omega arith) (unfold round in refl)

-- times 2.0
doubled : (x : Float) → AtMost 1 x → AtMost 2 (mul binary64 x (fin false 1 (pos 1)))
unfolding mul
doubled nan h = h
doubled (inf s) h = absurd h
doubled (fin true m e) h = absurd h
doubled (fin false m e) h = round-at-most 1 (m * up e * (1 * 2)) (down e * 1) (let d = down_pos e in omega arith) (omega arith) (unfold round in refl)

-- less 1.0
less_one : (x : Float) → AtMost 2 x → Small (sub binary64 x (fin false 1 (pos 0)))
unfolding sub
less_one nan h = absurd h
less_one (inf s) h = absurd h
less_one (fin true m e) h = absurd h
less_one (fin false m e) h = go (ltb a b) refl
  where
    a : ℕ
    a = m * up e * 1

    b : ℕ
    b = 1 * down e

    c : ℕ
    c = down e * 1

    rounded : (n : ℕ) → n ≤ c → AtMost 1 (round binary64 false n c)
    rounded n l = round-at-most 0 n c (let d = down_pos e in omega arith) (omega arith) (unfold round in refl)

    go : (t : Bool) → ltb a b ≡ t → Small (cond t (round binary64 true (b - a) c) (round binary64 (false && ltb b a) (a - b) c))
    go true q =
        let l = ltb-true a b q in
        subst Small (neg-round binary64 false (b - a) c) (small-below (round binary64 false (b - a) c) (rounded (b - a) (omega arith)))
    go false q = let l = ltb-false a b q in small-above (round binary64 false (a - b) c) (rounded (a - b) (omega arith))

pub mix-small : (a b : ℕ) → Small (mix_of a b)
unfolding mix_of of_int
mix-small a b = less_one _ (doubled _ (divided _ (as-double (word_of a b) (word_lt a b))))

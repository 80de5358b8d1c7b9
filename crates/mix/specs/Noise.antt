-- 01, "Starts": `mix` is 64-bit arithmetic that drops carries; the cast to a double rounds once, to nearest even ("Slips we have met").
use Rattle.std.specs.Prelude.{ℕ, ◌-◌, ◌*◌, ◌/◌, ◌%◌, ◌^◌, bit_xor, Float}
use Rattle.std.specs.Float.{binary64}
use Rattle.std.specs.Float.Ieee.{sub, mul, div}
use Rattle.real.specs.Literals.{double}

-- the product with its carries dropped
abbrev pub times : ℕ → ℕ → ℕ
times a b = (a * b) % 2 ^ 64

-- x, exclusive or itself shifted down by 33 places
abbrev pub folded : ℕ → ℕ
folded x = bit_xor x (x / 2 ^ 33)

abbrev pub word_of : ℕ → ℕ → ℕ
word_of a b = folded (times (folded (bit_xor (times a 0x9E37_79B9_7F4A_7C15) (times b 0xD1B5_4A32_D192_ED03))) 0xFF51_AFD7_ED55_8CCD)

-- the word over the largest word, each as a double; times 2.0, less 1.0
unfoldable pub mix_of : ℕ → ℕ → Float
mix_of a b =
    sub binary64
    (mul binary64 (div binary64 (double (word_of a b)) (double (2 ^ 64 - 1))) (double 2))
    (double 1)

-- `mix::mix` meets its contract, by those of its calls. Its float constants are whole numbers: the largest word rounds up to 2^64. Assumes nothing.
use Rattle.std.proofs.Common.{◌≡◌, ℕ, ◌-◌, ◌^◌, refl}
use lib.Bits.{bit_xor}
use lib.Ieee.{Float, binary64, of_bits, of_int, sub, mul, div}
use Rattle.real.specs.Literals.{lit, double}
use Rattle.mix.specs.Noise.{times, folded, mix_of}
use Rattle.mix.proofs.mix.Goals as goal

one : lit 0x3ff0_0000_0000_0000 ≡ double 1
unfolding of_bits of_int
one = refl

two : lit 0x4000_0000_0000_0000 ≡ double 2
unfolding of_bits of_int
two = refl

all : lit 0x43f0_0000_0000_0000 ≡ double (2 ^ 64 - 1)
unfolding of_bits of_int
all = refl

assembled : (a b m n y : ℕ) (v : Float)
    → m ≡ times a 0x9E37_79B9_7F4A_7C15
    → n ≡ times b 0xD1B5_4A32_D192_ED03
    → y ≡ times (folded (bit_xor m n)) 0xFF51_AFD7_ED55_8CCD
    → v ≡ double (folded y)
    → sub binary64 (mul binary64 (div binary64 v (lit 0x43f0_0000_0000_0000)) (lit 0x4000_0000_0000_0000)) (lit 0x3ff0_0000_0000_0000) ≡ mix_of a b
unfolding mix_of
assembled a b m n y v em en ey ev = rw (ev, ey, em, en, all, two, one)

pub returns : goal.returns
returns c =
    let s = c.args in
    assembled s.a s.b c.wrapping_mul.result c.wrapping_mul-2.result c.wrapping_mul-y.result c.nearest_u64_to_f64.result
    c.wrapping_mul.ensures c.wrapping_mul-2.ensures c.wrapping_mul-y.ensures c.nearest_u64_to_f64.ensures

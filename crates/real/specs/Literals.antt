-- The doubles that 01 writes in decimal. Each stands by its bits, as the program's literals are read; proofs/Literals.antt shows that it is the
-- double nearest to the decimal.
use Rattle.std.specs.Prelude.{ℕ, pos, Float}
use Rattle.std.specs.Float.{binary64}
use Rattle.std.specs.Float.Ieee.{of_bits, of_int}

-- the double of a bit pattern
abbrev pub lit : ℕ → Float
lit b = of_bits binary64 b

-- a whole number as a double, rounded once
abbrev pub double : ℕ → Float
double n = of_int binary64 (pos n)

abbrev pub nought : Float
nought = lit 0

abbrev pub one : Float
one = lit 0x3ff0_0000_0000_0000

-- 0.5: each length that Newton tries is half the one before
abbrev pub half : Float
half = lit 0x3fe0_0000_0000_0000

-- 1e-8: a mismatch below it is solved
abbrev pub tolerance : Float
tolerance = lit 0x3e45_798e_e230_8c3a

-- 1e-6: the margin of the limit tests and of the test by which a bus is reverted
abbrev pub margin : Float
margin = lit 0x3eb0_c6f7_a0b5_ed8d

-- 0.10 and 0.03: how far a perturbed start moves angles and magnitudes
abbrev pub tenth : Float
tenth = lit 0x3fb9_9999_9999_999a

abbrev pub three_hundredths : Float
three_hundredths = lit 0x3f9e_b851_eb85_1eb8

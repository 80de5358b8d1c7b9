-- 01, "One listing in full": the lines that the solve program prints, byte by byte.
pub mod Laws
use Rattle.std.specs.Prelude.{ℕ, zero, suc, ◌+◌, ◌/◌, ◌%◌, ◌≡◌, cond, List, [], ◌∷◌, ◌++◌, ltb, length, get_or, Float}
use Rattle.std.proofs.lemmas.List.Edits.{sets}
use Rattle.std.specs.Float.{nan, binary64}
use Rattle.std.specs.Float.Ieee.{is_nan, to_bits}
use Rattle.io.specs.Digits.{hex_digit_ascii, last_digits}
use Rattle.real.specs.declared.Value.{Value}
use Rattle.real.specs.declared.Value.TheVariants.{Whole, Real}

-- "in decimal": the digits of n, none of them a leading zero, at most k of them
unfoldable pub decimal_by : ℕ → ℕ → List ℕ
decimal_by zero n = []
decimal_by (suc k) n = cond (ltb n 10) (hex_digit_ascii n ∷ []) (decimal_by k (n / 10) ++ (hex_digit_ascii (n % 10) ∷ []))

-- a 64-bit number has at most 20
abbrev pub printed_decimal : ℕ → List ℕ
printed_decimal n = decimal_by 20 n

-- "A printed NaN is `nan`; other reals print as 16 lower-case hexadecimal digits of their bits."
unfoldable pub printed_real : Float → List ℕ
printed_real x = cond (is_nan x) (110 ∷ 97 ∷ 110 ∷ []) (last_digits 16 16 (to_bits binary64 x))

-- "places and counts in decimal, mismatch as a real", each after a space
abbrev pub printed_value : Value → List ℕ
printed_value (Whole n) = (32 ∷ []) ++ printed_decimal n
printed_value (Real x) = (32 ∷ []) ++ printed_real x

-- `ok`, "iterations, residual", LF
unfoldable pub ok_line : ℕ → Float → List ℕ
ok_line iterations residual = (111 ∷ 107 ∷ []) ++ printed_value (Whole iterations) ++ printed_value (Real residual) ++ (10 ∷ [])

-- four reals, each after a space
unfoldable pub four_reals : Float → Float → Float → Float → List ℕ
four_reals a b c d = printed_value (Real a) ++ printed_value (Real b) ++ printed_value (Real c) ++ printed_value (Real d)

-- "Then per bus: number, kind (S, V, Q), vm, va, p, q."
unfoldable pub bus_line : ℕ → ℕ → Float → Float → Float → Float → List ℕ
bus_line bus kind vm va p q = printed_decimal bus ++ (32 ∷ []) ++ (kind ∷ []) ++ four_reals vm va p q ++ (10 ∷ [])

-- the lines of the first n buses
unfoldable pub bus_lines : ℕ → List Float → List Float → List Float → List Float → List ℕ → List ℕ
bus_lines zero vm va p q kinds = []
bus_lines (suc b) vm va p q kinds = bus_lines b vm va p q kinds ++ bus_line b (get_or kinds b 0) (get_or vm b nan) (get_or va b nan) (get_or p b nan) (get_or q b nan)

-- 02, Ask 5: "one line per branch after the bus lines: row, from-end P and Q, to-end P and Q, loss"
unfoldable pub branch_line : ℕ → Float → Float → Float → Float → Float → List ℕ
branch_line row pf qf pt qt loss = printed_decimal row ++ four_reals pf qf pt qt ++ printed_value (Real loss) ++ (10 ∷ [])

-- the lines of the first n branches
unfoldable pub branch_lines : ℕ → List Float → List Float → List Float → List Float → List Float → List ℕ
branch_lines zero pf qf pt qt loss = []
branch_lines (suc e) pf qf pt qt loss =
    branch_lines e pf qf pt qt loss ++ branch_line e (get_or pf e nan) (get_or qf e nan) (get_or pt e nan) (get_or qt e nan) (get_or loss e nan)

unfoldable pub printed_values : List Value → List ℕ
printed_values [] = []
printed_values (v ∷ vs) = printed_value v ++ printed_values vs

-- "`refused`, number, then the values of its table row"
abbrev pub head_of : ℕ → List ℕ
head_of number = (114 ∷ 101 ∷ 102 ∷ 117 ∷ 115 ∷ 101 ∷ 100 ∷ []) ++ printed_value (Whole number)

unfoldable pub refused_line : ℕ → List Value → List ℕ
refused_line number values = head_of number ++ printed_values values ++ (10 ∷ [])

-- bytes written into a buffer from a place on: the place after them, and the buffer
pub record Wrote (before : List ℕ) (at : ℕ) (bytes : List ℕ) (end : ℕ) (after : List ℕ) : Type 0 where
  pub ends : end ≡ at + length bytes
  pub left : after ≡ sets before at bytes

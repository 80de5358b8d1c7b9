-- 01, "Table of proved examples": each row has what the definitions give and what 01 says. `examples-hold` (proofs/Table.antt) says that all rows hold.
use Rattle.std.specs.Prelude.{ℕ, ◌≡◌, List, [], ◌∷◌, ◌++◌, negsuc, take, Float, None, Option, Some}
use Rattle.std.specs.Float.{nan, binary64}
use Rattle.std.specs.Float.Ieee.{of_int, of_bits}
use Rattle.real.specs.Literals.{double}
use Rattle.real.specs.Norm.{norm_of}
use Rattle.mix.specs.Noise.{mix_of}
use Rattle.trig.specs.Sine.{sin_cos_of}
use Rattle.linsolve.specs.Linear.{Answer, solved, singular, solution, answer_of, space_of}
use Rattle.linsolve.proofs.Examples.{single, pair, sides}
use Rattle.islands.specs.Islands.{labels_of}
use Rattle.layout.specs.Layout.{none, layout_of}
use Rattle.layout.proofs.Examples.{svqq}
use Rattle.fields.specs.Real.{real_of}
use Rattle.case_text.proofs.Examples.{listing, point_text}
use Rattle.report.proofs.Examples.{first_line, second_line}
use Rattle.report.specs.Report.{report_of}

-- what an example is about
pub data Value : Type 0 where
  bytes : List ℕ → Value
  numbers : List ℕ → Value
  reals : List Float → Value
  field : Option Float → Value
  solve : Answer → Value

pub record Row : Type 0 where
  pub given : Value
  pub expected : Value

abbrev pub row : Value → Value → Row
row g e = record { given = g; expected = e }

-- every row holds
abbrev pub Hold : List Row → Type 0
Hold [] = Unit
Hold (r ∷ rs) = (r.given ≡ r.expected) × Hold rs

abbrev minus_one : Float
minus_one = of_int binary64 (negsuc 0)

abbrev minus_two : Float
minus_two = of_int binary64 (negsuc 1)

-- w is the workspace that a run is lent
abbrev pub table : List Float → List Row
table w =
    -- the listing: the 73 bytes of the text print the two lines
    row (bytes (report_of listing w).bytes) (bytes (first_line ++ second_line))
    -- mix(0,0) = -1
    ∷ row (reals (mix_of 0 0 ∷ [])) (reals (minus_one ∷ []))
    -- norm of nothing 0, of (-2,1) 2, of (3,NaN) NaN
    ∷ row (reals (norm_of 0 [] ∷ [])) (reals (double 0 ∷ []))
    ∷ row (reals (norm_of 2 (minus_two ∷ double 1 ∷ []) ∷ [])) (reals (double 2 ∷ []))
    ∷ row (reals (norm_of 2 (double 3 ∷ nan ∷ []) ∷ [])) (reals (nan ∷ []))
    -- `-0` is 8000000000000000; `-0.25` is bfd0000000000000
    ∷ row (field (real_of (45 ∷ 48 ∷ []))) (field (Some (of_bits binary64 0x8000000000000000)))
    ∷ row (field (real_of (45 ∷ 48 ∷ 46 ∷ 50 ∷ 53 ∷ []))) (field (Some (of_bits binary64 0xbfd0000000000000)))
    -- `1.` is refused 5: a text whose field at byte 4 it is prints `refused 5 4`
    ∷ row (field (real_of (49 ∷ 46 ∷ []))) (field None)
    ∷ row (bytes (report_of point_text w).bytes) (bytes (114 ∷ 101 ∷ 102 ∷ 117 ∷ 115 ∷ 101 ∷ 100 ∷ 32 ∷ 53 ∷ 32 ∷ 52 ∷ 10 ∷ []))
    -- kinds S,V,Q,Q give angle columns none,0,1,2, magnitude columns none,none,3,4
    ∷ row (numbers (take 4 (layout_of 4 svqq).va_of)) (numbers (none ∷ 0 ∷ 1 ∷ 2 ∷ []))
    ∷ row (numbers (take 4 (layout_of 4 svqq).vm_of)) (numbers (none ∷ none ∷ 3 ∷ 4 ∷ []))
    -- five buses with lines 0-3 and 1-2 are labelled 0,1,1,0,2
    ∷ row (numbers (labels_of 5 (0 ∷ 1 ∷ []) (3 ∷ 2 ∷ []))) (numbers (0 ∷ 1 ∷ 1 ∷ 0 ∷ 2 ∷ []))
    -- sine 0 is 0, cosine 0 is 1; sine 1025 is NaN
    ∷ row (reals ((sin_cos_of (double 0)).sin ∷ [])) (reals (double 0 ∷ []))
    ∷ row (reals ((sin_cos_of (double 0)).cos ∷ [])) (reals (double 1 ∷ []))
    ∷ row (reals ((sin_cos_of (double 1025)).sin ∷ [])) (reals (nan ∷ []))
    -- rows (0,2),(4,0) with right side (6,8) give (2,3); a 1 by 1 zero is singular
    ∷ row (solve (answer_of (solution 2 pair))) (solve solved)
    ∷ row (reals (sides 2 (space_of (solution 2 pair)))) (reals (double 2 ∷ double 3 ∷ []))
    ∷ row (solve (answer_of (solution 1 single))) (solve (singular 0))
    ∷ []

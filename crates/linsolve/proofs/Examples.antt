-- 01's examples of the linear solve, computed: rows (0,2),(4,0) with right side (6,8) give (2,3); a 1 by 1 zero is singular.
-- Assumes nothing.
use Prim.Native.Nat.{ℕ}
use mathlib.Core.Path.{◌≡◌, refl}
use mathlib.Core.List.{List, [], ◌∷◌}
use lib.ListN.{replicate, set, take, drop}
use lib.Ieee.{Float, of_int, of_bits, add, sub, mul, div, lt}
use Rattle.real.specs.Literals.{double}
use Rattle.linsolve.specs.Linear.{cleared, clear_rows, added, solved, singular, answer_of, space_of, solution}

-- the first n right sides
abbrev pub sides : ℕ → List Float → List Float
sides n w = take n (drop 4096 w)

-- a zero matrix of one unknown, in a workspace that held ones
unfoldable pub single : List Float
unfolding of_int clear_rows
single = cleared 1 (replicate 4160 (double 1))

-- the entries 2 and 4 added to a zero matrix, so that its rows are (0,2) and (4,0), with the right sides 6 and 8
unfoldable pub pair : List Float
unfolding of_int clear_rows
pair = set (set (added 1 0 (double 4) (added 0 1 (double 2) (cleared 2 (replicate 4160 (double 1))))) 4096 (double 6)) 4097 (double 8)

pub pair-solved : answer_of (solution 2 pair) ≡ solved
unfolding solution pair of_int of_bits add sub mul div lt
pair-solved = refl

pub pair-gives : sides 2 (space_of (solution 2 pair)) ≡ double 2 ∷ double 3 ∷ []
unfolding solution pair of_int of_bits add sub mul div lt
pair-gives = refl

pub zero-singular : answer_of (solution 1 single) ≡ singular 0
unfolding solution single of_int of_bits add sub mul div lt
zero-singular = refl

-- What the input says of a system: its right sides and then its entries row by row, eight bytes each. Every place of the workspace
-- that is none of them holds a mark of its own.
use Rattle.std.specs.Prelude.{ℕ, ◌+◌, ◌*◌, ◌<◌, ◌/◌, ◌%◌, ◌≡◌, cond, List, eqb, ltb, length, Float, Option, Some, None, Ok, Err}
use Rattle.std.specs.Float.{binary64}
use Rattle.std.specs.Float.Ieee.{of_bits}
use Rattle.vectors.specs.Words.{double_at}
use Rattle.linsolve.specs.Linear.{Answer, at, answer_of, space_of, solution}

-- how many places a system has
abbrev pub size_of : ℕ → ℕ
size_of dim = dim * dim + dim

-- which of them the place i is
unfoldable pub slot_of : ℕ → ℕ → Option ℕ
slot_of dim i =
    cond (ltb (i % 64) dim)
    (cond (eqb (i / 64) 64) (Some (i % 64)) (cond (ltb (i / 64) dim) (Some (dim + (i / 64) * dim + i % 64)) None))
    None

-- the mark of a place: -(2^52 + i)
abbrev pub mark_of : ℕ → Float
mark_of i = of_bits binary64 (0xc330_0000_0000_0000 + i)

-- what the place i holds, where the system is told from a byte on
abbrev pub held_at : List ℕ → ℕ → ℕ → Option ℕ → Float
held_at s from i (Some k) = double_at (from + k * 8) s
held_at s from i None = mark_of i

unfoldable pub told_of : List ℕ → ℕ → ℕ → ℕ → Float
unfolding slot_of
told_of s from dim i = held_at s from i (slot_of dim i)

-- a workspace of 4,224 places, 64 more than the solve uses, as told from a byte on
pub record Holds (w : List Float) (s : List ℕ) (from dim : ℕ) : Type 0 where
  pub size : length w ≡ 4224
  pub each : (i : ℕ) → i < 4224 → at w i ≡ told_of s from dim i

-- 64 stands for solved, a smaller number for the column without a pivot
abbrev pub number_of : Answer → ℕ
number_of (Ok x) = 64
number_of (Err s) = s.column

-- the solve of the workspace that is told first gives the answer, and leaves the workspace that is told next
pub record Agrees (s : List ℕ) (dim answer : ℕ) : Type 0 where
  pub answers : (w : List Float) → Holds w s 0 dim → number_of (answer_of (solution dim w)) ≡ answer
  pub leaves : (w : List Float) → Holds w s 0 dim → Holds (space_of (solution dim w)) s (size_of dim * 8) dim

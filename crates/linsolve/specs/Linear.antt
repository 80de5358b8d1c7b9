-- 01, "Linear solve", over the workspace's list: row r, column c of the matrix at r * 64 + c, the right side of row r at 4096 + r.
-- 01 gives an order of work, so each definition counts down what is left of it: the first number is how many rows or columns are left,
-- the second where they begin, and what comes after them stands in the clause of zero. Linear/Laws.antt says what follows.
pub mod Laws
pub mod Space
use Rattle.std.specs.Prelude.{ℕ, zero, suc, ◌+◌, ◌-◌, ◌*◌, cond, List, eqb, get_or, set, Float, Result, Ok, Err}
use Rattle.std.specs.Float.{nan, binary64}
use Rattle.std.specs.Float.Ieee.{add, sub, mul, div, lt}
use Rattle.real.specs.Literals.{nought}
use Rattle.real.specs.Real.{absolute}
use Rattle.linsolve.specs.declared.Singular.{Singular}

-- the double at a place of the workspace
abbrev pub at : List Float → ℕ → Float
at w i = get_or w i nan

-- n places from i on are +0.0
unfoldable pub zeroed : ℕ → ℕ → List Float → List Float
zeroed zero i w = w
zeroed (suc n) i w = zeroed n (i + 1) (set w i nought)

-- the n rows from r on, dim columns of each, and then dim right sides
unfoldable pub clear_rows : ℕ → ℕ → ℕ → List Float → List Float
unfolding zeroed
clear_rows zero r dim w = zeroed dim 4096 w
clear_rows (suc n) r dim w = clear_rows n (r + 1) dim (zeroed dim (r * 64) w)

-- "a zero matrix", its right sides too
abbrev pub cleared : ℕ → List Float → List Float
cleared dim w = clear_rows dim 0 dim w

-- "Entries are added": one entry more
abbrev pub added : ℕ → ℕ → Float → List Float → List Float
added row col x w = set w (row * 64 + col) (add binary64 (at w (row * 64 + col)) x)

-- f r as the right side of each of the first n rows r
unfoldable pub with_sides : ℕ → (ℕ → Float) → List Float → List Float
with_sides zero f w = w
with_sides (suc k) f w = set (with_sides k f w) (4096 + k) (f k)

-- "the pivot is the row, at or below the diagonal, whose absolute value is strictly above the best so far": of the n rows from r on, else p
unfoldable pub pivot_from : ℕ → ℕ → ℕ → Float → ℕ → List Float → ℕ
unfolding absolute
pivot_from zero r col best p w = p
pivot_from (suc n) r col best p w =
    let x = absolute (at w (r * 64 + col)) in
    let above = lt best x in
    pivot_from n (r + 1) col (cond above x best) (cond above r p) w

-- two places exchanged
abbrev pub swapped : ℕ → ℕ → List Float → List Float
swapped i j w = set (set w i (at w j)) j (at w i)

-- "Rows are exchanged with their right sides": n columns of the rows a and b from c on, and then the right sides
unfoldable pub swap_rows : ℕ → ℕ → ℕ → ℕ → List Float → List Float
swap_rows zero c a b w = swapped (4096 + a) (4096 + b) w
swap_rows (suc n) c a b w = swap_rows n (c + 1) a b (swapped (a * 64 + c) (b * 64 + c) w)

-- the place i less f times the place j
abbrev pub less : ℕ → ℕ → Float → List Float → List Float
less i j f w = set w i (sub binary64 (at w i) (mul binary64 f (at w j)))

-- "subtracts f times the pivot row and right side": row r less f times row p, n columns from c on, and then the right side
unfoldable pub sub_row : ℕ → ℕ → ℕ → ℕ → Float → List Float → List Float
sub_row zero c p r f w = less (4096 + r) (4096 + p) f w
sub_row (suc n) c p r f w = sub_row n (c + 1) p r f (less (r * 64 + c) (p * 64 + c) f w)

-- where that begins in a lower row, under the pivot of row p. "f times the pivot row" is the whole row
abbrev pub whole_row : ℕ → ℕ
whole_row p = 0

-- ours begins after the pivot's column: that column and those further left are read no more, and stay as they are
abbrev pub after_pivot : ℕ → ℕ
after_pivot p = p + 1

-- "Each lower row takes f = its entry / pivot": the n rows from r on, under the pivot of row p
unfoldable pub sub_lower : (ℕ → ℕ) → ℕ → ℕ → ℕ → ℕ → List Float → List Float
unfolding sub_row
sub_lower first zero r p dim w = w
sub_lower first (suc n) r p dim w =
    let f = div binary64 (at w (r * 64 + p)) (at w (p * 64 + p)) in
    sub_lower first n (r + 1) p dim (sub_row (dim - first p) (first p) p r f w)

-- what the solve answers: solved, or the column of which 01 says "none means singular"
abbrev pub Answer : Type 0
Answer = Result (Unit {0}) Singular

abbrev pub solved : Answer
solved = Ok tt

abbrev pub singular : ℕ → Answer
singular c = Err (record { column = c })

-- and the workspace that it leaves
pub data Outcome : Type 0 where
  outcome : Answer → List Float → Outcome

abbrev pub answer_of : Outcome → Answer
answer_of (outcome s w) = s

abbrev pub space_of : Outcome → List Float
space_of (outcome s w) = w

-- "In each column": the n columns from col on. The search begins "from 0.0", and from dim, which is no row: "none means singular"
unfoldable pub reduce : (ℕ → ℕ) → ℕ → ℕ → ℕ → List Float → Outcome
unfolding pivot_from swap_rows sub_lower
reduce first zero col dim w = outcome solved w
reduce first (suc n) col dim w =
    let p = pivot_from (dim - col) col col nought dim w in
    let rest = reduce first n (col + 1) dim (sub_lower first (dim - (col + 1)) (col + 1) col dim (swap_rows dim 0 col p w)) in
    cond (eqb p dim) (outcome (singular col) w) rest

-- "subtracts products in rising column order": from acc, those of row r and the unknowns, n columns from c on
unfoldable pub less_known : ℕ → ℕ → ℕ → Float → List Float → Float
less_known zero c r acc w = acc
less_known (suc n) c r acc w = less_known n (c + 1) r (sub binary64 acc (mul binary64 (at w (r * 64 + c)) (at w (4096 + c)))) w

-- "Back substitution .., then divides": the rows below the first number, the last of them first
unfoldable pub substitute : ℕ → ℕ → List Float → List Float
unfolding less_known
substitute zero dim w = w
substitute (suc r) dim w =
    let x = less_known (dim - (r + 1)) (r + 1) r (at w (4096 + r)) w in
    substitute r dim (set w (4096 + r) (div binary64 x (at w (r * 64 + r))))

-- what follows the reduction: a singular matrix is left as it stands
unfoldable pub finish : ℕ → Outcome → Outcome
unfolding substitute
finish dim (outcome (Ok x) w) = outcome (Ok x) (substitute dim dim w)
finish dim (outcome (Err s) w) = outcome (Err s) w

-- reduction and substitution
unfoldable pub worked_out : (ℕ → ℕ) → ℕ → List Float → Outcome
unfolding finish reduce
worked_out first dim w = finish dim (reduce first dim 0 dim w)

-- the solve: its answer and its right sides, where the solution stands, by 01's rule to the letter; in the matrix's places what ours leaves there
unfoldable pub solution : ℕ → List Float → Outcome
unfolding worked_out with_sides
solution dim w =
    let exact = worked_out whole_row dim w in
    outcome (answer_of exact) (with_sides dim (λ r. at (space_of exact) (4096 + r)) (space_of (worked_out after_pivot dim w)))

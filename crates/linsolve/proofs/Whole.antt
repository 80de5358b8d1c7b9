-- The subtraction after the pivot's column gives what 01's, over the whole row, gives: the same answer and the same right sides.
-- Why: the two workspaces come to differ only under the diagonal, in columns whose subtraction is done, and nothing reads there again. Assumes nothing.
use mathlib.Core.Logic.{◌≢◌}
use mathlib.Core.Path.{◌≡◌, refl, sym, ap, ◌∙◌}
use mathlib.Core.Bool.{Bool, true, false, cond}
use mathlib.Core.List.{List, [], ◌∷◌}
use Prim.Native.Nat.{ℕ, zero, suc, ◌+◌, ◌-◌, ◌*◌, ◌≤◌, ◌<◌}
use native.Mathlib.Omega.{arith}
use native.Mathlib.Nat.{zero-add, suc-add, suc_inj, sub-zero}
use borrow.Author.Tests.{eqb-false}
use lib.Dec.{eqb}
use lib.ListN.{length, set, length-set}
use lib.Seq.{set-get_or}
use lib.Ieee.{Float, lt}
use Rattle.real.specs.Tests.{cond_either}
use Rattle.real.specs.Literals.{nought}
use Rattle.real.specs.Real.{absolute}
use Rattle.std.specs.Prelude.{Ok, Err}
use Rattle.linsolve.specs.Linear.{at, pivot_from, swapped, swap_rows, less, sub_row, whole_row, after_pivot, sub_lower, Answer, Outcome, outcome, answer_of, space_of, reduce, less_known, substitute, finish, worked_out, solution}
use Rattle.linsolve.specs.Linear.Laws.{pivot-below, solution-ours}

-- ---- Where the two workspaces agree

-- The entries under the diagonal are given up one after the other, down each column: that of row r and column c at the time c * 64 + r.
-- At the time t the live places are all but those given up before t.
abbrev Live : ℕ → ℕ → ℕ → Type 0
Live dim t i = (r c : ℕ) → c < r → r < dim → c * 64 + r < t → i ≢ r * 64 + c

record Alike (dim t : ℕ) (u v : List Float) : Type 0 where
  size : length u ≡ length v
  same : (i : ℕ) → Live dim t i → at u i ≡ at v i

-- later, less is asked
later : {dim t s : ℕ} {u v : List Float} → t ≤ s → Alike dim t u v → Alike dim s u v
later h a = record { size = a.size; same = λ i l. a.same i (λ r c x y z. l r c x y (omega arith)) }

-- two lists of one length, alike at j, are so after a store into each: of the same value, if it is at j
at_set : (u v : List Float) (i j : ℕ) (x y : Float) → length u ≡ length v → (j ≡ i → x ≡ y) → at u j ≡ at v j → at (set u i x) j ≡ at (set v i y) j
at_set [] [] i j x y l h e = e
at_set [] (b ∷ v) i j x y l h e = absurd (omega arith)
at_set (a ∷ u) [] i j x y l h e = absurd (omega arith)
at_set (a ∷ u) (b ∷ v) zero zero x y l h e = h refl
at_set (a ∷ u) (b ∷ v) zero (suc j) x y l h e = e
at_set (a ∷ u) (b ∷ v) (suc i) zero x y l h e = e
at_set (a ∷ u) (b ∷ v) (suc i) (suc j) x y l h e = at_set u v i j x y (suc_inj l) (λ k. h (ap suc k)) e

module _ {dim t : ℕ} {u v : List Float} (a : Alike dim t u v) where
  -- a store into both, of the same value if the place is live
  store : (i : ℕ) (x y : Float) → (Live dim t i → x ≡ y) → Alike dim t (set u i x) (set v i y)
  store i x y h = record {
    size = length-set u i x ∙ a.size ∙ sym (length-set v i y);
    same = λ j l. at_set u v i j x y a.size (λ e. h (rw e at l)) (a.same j l);
  }

  -- a store into the first alone, at a place that is not live
  store-lone : (i : ℕ) (x : Float) → (Live dim t i → ⊥) → Alike dim t (set u i x) v
  store-lone i x h = rw set-get_or at (store i x (at v i) (λ l. absurd (h l)))

  less-alike : (i j : ℕ) (f : Float) → Live dim t j → Alike dim t (less i j f u) (less i j f v)
  less-alike i j f h = store i _ _ (λ l. rw (a.same i l, a.same j h))

-- two places exchanged, of which both are live or neither
swapped-alike : {dim t : ℕ} {u v : List Float} → Alike dim t u v → (i j : ℕ) → (Live dim t i → Live dim t j) → (Live dim t j → Live dim t i)
    → Alike dim t (swapped i j u) (swapped i j v)
swapped-alike a i j there back = store (store a i _ _ (λ l. a.same j (there l))) j _ _ (λ l. a.same i (back l))

-- ---- The steps of the solve keep it so

-- no row above the first that is looked at becomes the pivot's
pivot_from_lem : (n r col : ℕ) (best : Float) (p : ℕ) (w : List Float) (m : ℕ) → m ≤ r → m ≤ p → m ≤ pivot_from n r col best p w
unfolding pivot_from
pivot_from_lem zero r col best p w m h k = k
pivot_from_lem (suc n) r col best p w m h k =
    let above = lt best (absolute (at w (r * 64 + col))) in
    pivot_from_lem n (r + 1) col _ (cond above r p) w m (omega arith) (cond_either (λ q. m ≤ q) above h k)

module _ (dim : ℕ) (fits : dim ≤ 64) where
  side-live : (t r : ℕ) → Live dim t (4096 + r)
  side-live t r q c x y z e = omega arith

  -- on the diagonal, and right of it
  upper-live : (t r c : ℕ) → r ≤ c → c < dim → Live dim t (r * 64 + c)
  upper-live t r c h k q d x y z e = omega arith

  -- not given up yet
  entry-live : (t r c : ℕ) → r < dim → c < dim → t ≤ c * 64 + r → Live dim t (r * 64 + c)
  entry-live t r c h k m q d x y z e = omega arith

  -- the search for the pivot reads column col, from row col on
  pivot-alike : (n r col : ℕ) (best : Float) (p : ℕ) {u v : List Float} → Alike dim (col * 64) u v → r + n ≤ dim → col < dim
      → pivot_from n r col best p u ≡ pivot_from n r col best p v
  unfolding pivot_from
  pivot-alike zero r col best p a h k = refl
  pivot-alike (suc n) r col best p a h k =
      rw (a.same (r * 64 + col) (entry-live _ r col (omega arith) k (omega arith))) (pivot-alike n (r + 1) col _ _ a (omega arith) k)

  -- when the columns left of col are given up, the rows from col on have the same columns live: so two of them may be exchanged
  row-live : (col r q c : ℕ) → col ≤ r → r < dim → q < dim → c < dim → Live dim (col * 64) (r * 64 + c) → Live dim (col * 64) (q * 64 + c)
  row-live col r q c h k m n l x d y z s e = l r c (omega arith) k (omega arith) refl

  swap_alike : (n c col b : ℕ) {u v : List Float} → Alike dim (col * 64) u v → c + n ≤ dim → col ≤ b → b < dim
      → Alike dim (col * 64) (swap_rows n c col b u) (swap_rows n c col b v)
  unfolding swap_rows
  swap_alike zero c col b a h k m = swapped-alike a _ _ (λ l. side-live _ b) (λ l. side-live _ col)
  swap_alike (suc n) c col b a h k m =
      let next = swapped-alike a _ _ (row-live col col b c (omega arith) (omega arith) m (omega arith)) (row-live col b col c k m (omega arith) (omega arith)) in
      swap_alike n (c + 1) col b next (omega arith) k m

  module _ (p r : ℕ) (f : Float) (under : p < r) (row : r < dim) where
    -- the columns right of the pivot's, in both
    right-alike : (n c t : ℕ) {u v : List Float} → Alike dim t u v → c + n ≤ dim → p < c → Alike dim t (sub_row n c p r f u) (sub_row n c p r f v)
    unfolding sub_row
    right-alike zero c t a h k = less-alike a _ _ f (side-live t p)
    right-alike (suc n) c t a h k = right-alike n (c + 1) t (less-alike a _ _ f (upper-live t p c (omega arith) (omega arith))) (omega arith) (omega arith)

    -- the n columns up to the pivot's, in the first alone, and then the m others in both
    left-alike : (n m c : ℕ) {u v : List Float} → Alike dim (p * 64 + (r + 1)) u v → c + n ≡ p + 1 → p + 1 + m ≡ dim
        → Alike dim (p * 64 + (r + 1)) (sub_row (n + m) c p r f u) (sub_row m (p + 1) p r f v)
    unfolding sub_row
    left-alike zero m c a e k = let d : c ≡ p + 1 = omega arith in rw (zero-add, d) (right-alike m (p + 1) _ a (omega arith) (omega arith))
    left-alike (suc n) m c a e k =
        rw (suc-add n m) (left-alike n m (c + 1) (store-lone a _ _ (λ l. l r c (omega arith) row (omega arith) refl)) (omega arith) k)

    row-alike : {u v : List Float} → Alike dim (p * 64 + r) u v
        → Alike dim (p * 64 + (r + 1)) (sub_row (dim - 0) 0 p r f u) (sub_row (dim - (p + 1)) (p + 1) p r f v)
    row-alike a =
        let all : p + 1 + (dim - (p + 1)) ≡ dim = omega arith in
        rw sub-zero (rw all at (left-alike (p + 1) (dim - (p + 1)) 0 (later (omega arith) a) (omega arith) all))

  -- f is of two entries that are still live when its row's turn comes
  lower-alike : (n r p : ℕ) {u v : List Float} → Alike dim (p * 64 + r) u v → r + n ≡ dim → p < r
      → Alike dim (p * 64 + dim) (sub_lower whole_row n r p dim u) (sub_lower after_pivot n r p dim v)
  unfolding sub_lower
  lower-alike zero r p a e h = later (omega arith) a
  lower-alike (suc n) r p a e h =
      rw (a.same (r * 64 + p) (entry-live _ r p (omega arith) (omega arith) (omega arith)), a.same (p * 64 + p) (upper-live _ p p (omega arith) (omega arith)))
      (lower-alike n (r + 1) p (row-alike p r _ h (omega arith) a) (omega arith) (omega arith))

  -- the same answer, and workspaces alike but under the diagonal
  data Ends : Outcome → Outcome → Type 0 where
    ends : {s : Answer} {u v : List Float} → Alike dim (dim * 64) u v → Ends (outcome s u) (outcome s v)

  cond-ends : (t : Bool) {o q x y : Outcome} → Ends o q → (t ≡ false → Ends x y) → Ends (cond t o x) (cond t q y)
  cond-ends true a b = a
  cond-ends false a b = b refl

  reduce-alike : (n col : ℕ) {u v : List Float} → Alike dim (col * 64) u v → col + n ≡ dim → Ends (reduce whole_row n col dim u) (reduce after_pivot n col dim v)
  unfolding reduce
  reduce-alike zero col a e = ends (later (omega arith) a)
  reduce-alike (suc n) col {u} {v} a e =
      let p = pivot_from (dim - col) col col nought dim v in
      let low : col ≤ p = pivot_from_lem (dim - col) col col nought dim v col (omega arith) (omega arith) in
      let high : p ≤ dim = pivot-below (dim - col) col col nought dim v dim (omega arith) (omega arith) in
      rw (pivot-alike (dim - col) col col nought dim a (omega arith) (omega arith))
      (cond-ends (eqb p dim) (ends (later (omega arith) a)) (λ d.
      let exchanged = swap_alike dim 0 col p a (omega arith) low (omega (arith, eqb-false p dim d)) in
      let reduced = lower-alike (dim - (col + 1)) (col + 1) col (later (omega arith) exchanged) (omega arith) (omega arith) in
      reduce-alike n (col + 1) (later (omega arith) reduced) (omega arith)))

  -- the substitution reads the diagonal, what is right of it, and the right sides
  known_alike : (n c r : ℕ) (acc : Float) {t : ℕ} {u v : List Float} → Alike dim t u v → c + n ≤ dim → r < c → less_known n c r acc u ≡ less_known n c r acc v
  unfolding less_known
  known_alike zero c r acc a h k = refl
  known_alike (suc n) c r acc a h k =
      rw (a.same (r * 64 + c) (upper-live _ r c (omega arith) (omega arith)), a.same (4096 + c) (side-live _ c)) (known_alike n (c + 1) r _ a (omega arith) (omega arith))

  substitute-alike : (n : ℕ) {t : ℕ} {u v : List Float} → Alike dim t u v → n ≤ dim → Alike dim t (substitute n dim u) (substitute n dim v)
  unfolding substitute
  substitute-alike zero a h = a
  substitute-alike (suc r) {v} a h =
      let pivot = a.same (r * 64 + r) (upper-live _ r r (omega arith) h) in
      let known = known_alike (dim - (r + 1)) (r + 1) r (at v (4096 + r)) a (omega arith) (omega arith) in
      substitute-alike r (store a (4096 + r) _ _ (λ l. rw (a.same (4096 + r) l, pivot, known))) (omega arith)

  finish-alike : {o q : Outcome} → Ends o q → (answer_of (finish dim o) ≡ answer_of (finish dim q))
      × ((r : ℕ) → at (space_of (finish dim o)) (4096 + r) ≡ at (space_of (finish dim q)) (4096 + r))
  unfolding finish
  finish-alike (ends {s = Ok x} a) = (refl, λ r. (substitute-alike dim a (omega arith)).same (4096 + r) (side-live _ r))
  finish-alike (ends {s = Err s} a) = (refl, λ r. a.same (4096 + r) (side-live _ r))

pub ours-is-the-rules : (dim : ℕ) (w : List Float) → dim ≤ 64 → worked_out after_pivot dim w ≡ solution dim w
unfolding worked_out
ours-is-the-rules dim w fits =
    let (answer, sides) = finish-alike dim fits (reduce-alike dim fits dim 0 (record { size = refl; same = λ i l. refl }) (omega arith)) in
    solution-ours dim w answer sides

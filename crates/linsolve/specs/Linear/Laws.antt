-- What the proofs of the solve and its callers cite: each definition's turn and end, the ways through the solve, and what it leaves alone.
-- Assumes nothing.
use Rattle.std.specs.Prelude.{◌≢◌, ◌≡◌, Bool, true, false, cond, List, eqb, length, set, Float, Ok, Err}
use Rattle.std.proofs.Math.Logic.{⊎_elim}
use Rattle.std.proofs.Math.Path.{refl}
use Rattle.std.proofs.Common.{◌∙◌, arith, eq-or-lt_of_le, length-set, get_or-set_same, get_or-set_other}
use Prim.Native.Nat.{ℕ, zero, suc, ◌+◌, ◌-◌, ◌*◌, ◌≤◌, ◌<◌}
use borrow.Author.Tests.{eq-eqb, ne_eqb, eqb-true, eqb-false}
use Rattle.std.proofs.lemmas.List.{set-get_or}
use Rattle.std.specs.Float.{nan, binary64}
use Rattle.std.specs.Float.Ieee.{sub, mul, div, lt}
use Rattle.real.specs.Tests.{cond_either}
use Rattle.real.specs.Literals.{nought}
use Rattle.real.specs.Real.{absolute}
use Rattle.linsolve.specs.declared.Singular.{Singular}
use Rattle.linsolve.specs.Linear.{at, zeroed, clear_rows, cleared, added, pivot_from, swapped, swap_rows, less, sub_row, whole_row, after_pivot, sub_lower, solved, singular, Outcome, outcome, answer_of, space_of, reduce, less_known, substitute, worked_out, with_sides, solution}

-- ---- Turns and ends

pub zeroed-end : (i : ℕ) (w : List Float) → zeroed 0 i w ≡ w
unfolding zeroed
zeroed-end i w = refl

pub zeroed-turn : (n i : ℕ) (w : List Float) → zeroed (suc n) i w ≡ zeroed n (i + 1) (set w i nought)
unfolding zeroed
zeroed-turn n i w = refl

pub clear-end : (r dim : ℕ) (w : List Float) → clear_rows 0 r dim w ≡ zeroed dim 4096 w
unfolding clear_rows
clear-end r dim w = refl

pub clear-turn : (n r dim : ℕ) (w : List Float) → clear_rows (suc n) r dim w ≡ clear_rows n (r + 1) dim (zeroed dim (r * 64) w)
unfolding clear_rows
clear-turn n r dim w = refl

pub pivot-end : (r col : ℕ) (best : Float) (p : ℕ) (w : List Float) → pivot_from 0 r col best p w ≡ p
unfolding pivot_from
pivot-end r col best p w = refl

module _ (n r col p : ℕ) (best x : Float) (w : List Float) (is : x ≡ absolute (at w (r * 64 + col))) where
  pub pivot-above : lt best x ≡ true → pivot_from (suc n) r col best p w ≡ pivot_from n (r + 1) col x r w
  unfolding pivot_from
  pivot-above h = rw (← is, h)

  pub pivot-not-above : lt best x ≡ false → pivot_from (suc n) r col best p w ≡ pivot_from n (r + 1) col best p w
  unfolding pivot_from
  pivot-not-above h = rw (← is, h)

-- a pivot is a row of the matrix, or dim
pub pivot-below : (n r col : ℕ) (best : Float) (p : ℕ) (w : List Float) (dim : ℕ) → r + n ≤ dim → p ≤ dim → pivot_from n r col best p w ≤ dim
unfolding pivot_from
pivot-below zero r col best p w dim h k = k
pivot-below (suc n) r col best p w dim h k =
    let above = lt best (absolute (at w (r * 64 + col))) in
    pivot-below n (r + 1) col _ (cond above r p) w dim (omega arith) (cond_either (λ q. q ≤ dim) above (omega arith) k)

pub swap-end : (c a b : ℕ) (w : List Float) → swap_rows 0 c a b w ≡ swapped (4096 + a) (4096 + b) w
unfolding swap_rows
swap-end c a b w = refl

pub swap-turn : (n c a b : ℕ) (w : List Float) → swap_rows (suc n) c a b w ≡ swap_rows n (c + 1) a b (swapped (a * 64 + c) (b * 64 + c) w)
unfolding swap_rows
swap-turn n c a b w = refl

-- a row exchanged with itself
pub swap_self : (n c a : ℕ) (w : List Float) → swap_rows n c a a w ≡ w
unfolding swap_rows
swap_self zero c a w = rw (set-get_or w (4096 + a) nan) (set-get_or w (4096 + a) nan)
swap_self (suc n) c a w = rw (set-get_or w (a * 64 + c) nan, set-get_or w (a * 64 + c) nan) (swap_self n (c + 1) a w)

pub sub-end : (c p r : ℕ) (f : Float) (w : List Float) → sub_row 0 c p r f w ≡ less (4096 + r) (4096 + p) f w
unfolding sub_row
sub-end c p r f w = refl

pub sub-turn : (n c p r : ℕ) (f : Float) (w : List Float) → sub_row (suc n) c p r f w ≡ sub_row n (c + 1) p r f (less (r * 64 + c) (p * 64 + c) f w)
unfolding sub_row
sub-turn n c p r f w = refl

module _ (first : ℕ → ℕ) where
  pub lower-end : (r p dim : ℕ) (w : List Float) → sub_lower first 0 r p dim w ≡ w
  unfolding sub_lower
  lower-end r p dim w = refl

  pub lower-turn : (n r p dim : ℕ) (w : List Float) → sub_lower first (suc n) r p dim w ≡ (
      let f = div binary64 (at w (r * 64 + p)) (at w (p * 64 + p)) in
      sub_lower first n (r + 1) p dim (sub_row (dim - first p) (first p) p r f w))
  unfolding sub_lower
  lower-turn n r p dim w = refl

  pub reduce-end : (col dim : ℕ) (w : List Float) → reduce first 0 col dim w ≡ outcome solved w
  unfolding reduce
  reduce-end col dim w = refl

  module _ (n col dim p : ℕ) (w : List Float) (is : p ≡ pivot_from (dim - col) col col nought dim w) where
    pub reduce-singular : p ≡ dim → reduce first (suc n) col dim w ≡ outcome (singular col) w
    unfolding reduce
    reduce-singular h = rw (← is, eq-eqb p dim h)

    pub reduce-on : p ≢ dim
        → reduce first (suc n) col dim w ≡ reduce first n (col + 1) dim (sub_lower first (dim - (col + 1)) (col + 1) col dim (swap_rows dim 0 col p w))
    unfolding reduce
    reduce-on h = rw (← is, ne_eqb p dim h)

pub known-end : (c r : ℕ) (acc : Float) (w : List Float) → less_known 0 c r acc w ≡ acc
unfolding less_known
known-end c r acc w = refl

pub known-turn : (n c r : ℕ) (acc : Float) (w : List Float)
    → less_known (suc n) c r acc w ≡ less_known n (c + 1) r (sub binary64 acc (mul binary64 (at w (r * 64 + c)) (at w (4096 + c)))) w
unfolding less_known
known-turn n c r acc w = refl

pub substitute-end : (dim : ℕ) (w : List Float) → substitute 0 dim w ≡ w
unfolding substitute
substitute-end dim w = refl

pub substitute-turn : (r dim : ℕ) (w : List Float) → substitute (suc r) dim w ≡ (
    let x = less_known (dim - (r + 1)) (r + 1) r (at w (4096 + r)) w in
    substitute r dim (set w (4096 + r) (div binary64 x (at w (r * 64 + r)))))
unfolding substitute
substitute-turn r dim w = refl

-- ---- The ways through the solve

module _ (first : ℕ → ℕ) (dim : ℕ) (w v : List Float) where
  pub worked-solved : outcome solved v ≡ reduce first dim 0 dim w → outcome solved (substitute dim dim v) ≡ worked_out first dim w
  unfolding worked_out
  worked-solved e = rw (← e)

  pub worked-singular : (s : Singular) → outcome (Err s) v ≡ reduce first dim 0 dim w → outcome (Err s) v ≡ worked_out first dim w
  unfolding worked_out
  worked-singular s e = rw (← e)

whole-outcome : (o : Outcome) → o ≡ outcome (answer_of o) (space_of o)
whole-outcome (outcome s w) = refl

-- right sides that stand there already change nothing
sides-same : (n : ℕ) (f : ℕ → Float) (w : List Float) → ((r : ℕ) → f r ≡ at w (4096 + r)) → with_sides n f w ≡ w
unfolding with_sides
sides-same zero f w h = refl
sides-same (suc k) f w h = rw (sides-same k f w h, h k) (set-get_or w (4096 + k) nan)

-- where the two ways agree in the answer and the right sides, the solve is ours
pub solution-ours : (dim : ℕ) (w : List Float) → answer_of (worked_out whole_row dim w) ≡ answer_of (worked_out after_pivot dim w)
    → ((r : ℕ) → at (space_of (worked_out whole_row dim w)) (4096 + r) ≡ at (space_of (worked_out after_pivot dim w)) (4096 + r))
    → worked_out after_pivot dim w ≡ solution dim w
unfolding solution
solution-ours dim w a s = rw (a, sides-same dim _ _ s) (whole-outcome (worked_out after_pivot dim w))

-- no unknowns: solved, and nothing touched
pub solution-of-none : (w : List Float) → solution 0 w ≡ outcome solved w
unfolding solution
solution-of-none w = refl

-- ---- What is left alone

-- a place that is no entry of the first dim rows and columns, and none of their right sides
pub record Outside (dim i : ℕ) : Type 0 where
  pub entry : (r c : ℕ) → r < dim → c < dim → i ≢ r * 64 + c
  pub side : (r : ℕ) → r < dim → i ≢ 4096 + r

pub past : (dim i : ℕ) → dim ≤ 64 → 4160 ≤ i → Outside dim i
past dim i h k = record { entry = λ r c hr hc e. omega arith; side = λ r hr e. omega arith }

-- v is w, but for entries and right sides of the first dim rows
pub record Kept (dim : ℕ) (w v : List Float) : Type 0 where
  pub size : length v ≡ length w
  pub rest : (i : ℕ) → Outside dim i → at v i ≡ at w i

pub kept-all : (dim : ℕ) (w : List Float) → Kept dim w w
kept-all dim w = record { size = refl; rest = λ i o. refl }

pub kept_on : {dim : ℕ} {w v u : List Float} → Kept dim w v → Kept dim v u → Kept dim w u
kept_on a b = record { size = b.size ∙ a.size; rest = λ i o. b.rest i o ∙ a.rest i o }

pub kept_entry : (dim r c : ℕ) (x : Float) (w : List Float) → r < dim → c < dim → Kept dim w (set w (r * 64 + c) x)
kept_entry dim r c x w hr hc = record { size = length-set w _ x; rest = λ i o. get_or-set_other w (r * 64 + c) i x nan (o.entry r c hr hc) }

pub kept-side : (dim r : ℕ) (x : Float) (w : List Float) → r < dim → Kept dim w (set w (4096 + r) x)
kept-side dim r x w hr = record { size = length-set w _ x; rest = λ i o. get_or-set_other w (4096 + r) i x nan (o.side r hr) }

-- so the places from 4,160 on are as they were
pub kept-past : {dim : ℕ} {w v : List Float} → Kept dim w v → dim ≤ 64 → (i : ℕ) → 4160 ≤ i → at v i ≡ at w i
kept-past k h i p = k.rest i (past _ i h p)

zeroed-kept : (n i dim : ℕ) (w : List Float) → ((k : ℕ) → i ≤ k → k < i + n → Outside dim k → ⊥) → Kept dim w (zeroed n i w)
unfolding zeroed
zeroed-kept zero i dim w h = kept-all dim w
zeroed-kept (suc n) i dim w h =
    kept_on (record { size = length-set w i nought; rest = λ k o. get_or-set_other w i k nought nan (λ e. h k (omega arith) (omega arith) o) })
    (zeroed-kept n (i + 1) dim (set w i nought) (λ k a b. h k (omega arith) (omega arith)))

clear_kept : (n r dim : ℕ) (w : List Float) → r + n ≤ dim → Kept dim w (clear_rows n r dim w)
unfolding clear_rows
clear_kept zero r dim w h = zeroed-kept dim 4096 dim w (λ k a b o. o.side (k - 4096) (omega arith) (omega arith))
clear_kept (suc n) r dim w h =
    kept_on (zeroed-kept dim (r * 64) dim w (λ k a b o. o.entry r (k - r * 64) (omega arith) (omega arith) (omega arith)))
    (clear_kept n (r + 1) dim _ (omega arith))

pub cleared-kept : (dim : ℕ) (w : List Float) → Kept dim w (cleared dim w)
cleared-kept dim w = clear_kept dim 0 dim w (omega arith)

pub added-kept : (dim row col : ℕ) (x : Float) (w : List Float) → row < dim → col < dim → Kept dim w (added row col x w)
added-kept dim row col x w hr hc = kept_entry dim row col _ w hr hc

swap-kept : (n c a b dim : ℕ) (w : List Float) → c + n ≤ dim → a < dim → b < dim → Kept dim w (swap_rows n c a b w)
unfolding swap_rows
swap-kept zero c a b dim w h ha hb = kept_on (kept-side dim a _ w ha) (kept-side dim b _ _ hb)
swap-kept (suc n) c a b dim w h ha hb =
    kept_on (kept_entry dim a c _ w ha (omega arith))
    (kept_on (kept_entry dim b c _ _ hb (omega arith)) (swap-kept n (c + 1) a b dim _ (omega arith) ha hb))

sub-kept : (n c p r dim : ℕ) (f : Float) (w : List Float) → c + n ≤ dim → r < dim → Kept dim w (sub_row n c p r f w)
unfolding sub_row
sub-kept zero c p r dim f w h hr = kept-side dim r _ w hr
sub-kept (suc n) c p r dim f w h hr = kept_on (kept_entry dim r c _ w hr (omega arith)) (sub-kept n (c + 1) p r dim f _ (omega arith) hr)

lower-kept : (n r p dim : ℕ) (w : List Float) → r + n ≤ dim → p < dim → Kept dim w (sub_lower after_pivot n r p dim w)
unfolding sub_lower
lower-kept zero r p dim w h hp = kept-all dim w
lower-kept (suc n) r p dim w h hp =
    kept_on (sub-kept (dim - (p + 1)) (p + 1) p r dim _ w (omega arith) (omega arith)) (lower-kept n (r + 1) p dim _ (omega arith) hp)

reduce-kept : (n col dim : ℕ) (w : List Float) → col + n ≤ dim → Kept dim w (space_of (reduce after_pivot n col dim w))
reduce-kept zero col dim w h = rw reduce-end (kept-all dim w)
reduce-kept (suc n) col dim w h = go (eqb p dim) refl (λ v. reduce-kept n (col + 1) dim v (omega arith))
  where
    p : ℕ
    p = pivot_from (dim - col) col col nought dim w

    go : (t : Bool) → eqb p dim ≡ t → ((v : List Float) → Kept dim v (space_of (reduce after_pivot n (col + 1) dim v)))
        → Kept dim w (space_of (reduce after_pivot (suc n) col dim w))
    go true e rest = rw (reduce-singular after_pivot n col dim p w refl (eqb-true p dim e)) (kept-all dim w)
    go false e rest =
        let k : p ≤ dim = pivot-below _ _ _ _ _ w dim (omega arith) (omega arith) in
        let d : p ≢ dim = eqb-false p dim e in
        rw (reduce-on after_pivot n col dim p w refl d)
        (kept_on (swap-kept dim 0 col p dim w (omega arith) (omega arith) (omega (arith, d)))
        (kept_on (lower-kept (dim - (col + 1)) (col + 1) col dim _ (omega arith) (omega arith)) (rest _)))

substitute-kept : (n dim : ℕ) (w : List Float) → n ≤ dim → Kept dim w (substitute n dim w)
unfolding substitute
substitute-kept zero dim w h = kept-all dim w
substitute-kept (suc r) dim w h = kept_on (kept-side dim r _ w (omega arith)) (substitute-kept r dim _ (omega arith))

worked_kept : (dim : ℕ) (w : List Float) → Kept dim w (space_of (worked_out after_pivot dim w))
worked_kept dim w = go (reduce after_pivot dim 0 dim w) refl (reduce-kept dim 0 dim w (omega arith))
  where
    go : (o : Outcome) → o ≡ reduce after_pivot dim 0 dim w → Kept dim w (space_of o) → Kept dim w (space_of (worked_out after_pivot dim w))
    go (outcome (Ok x) v) e k = rw (← (worked-solved after_pivot dim w v e)) (kept_on k (substitute-kept dim dim v (omega arith)))
    go (outcome (Err s) v) e k = rw (← (worked-singular after_pivot dim w v s e)) k

sides-kept : (n dim : ℕ) (f : ℕ → Float) (w : List Float) → n ≤ dim → Kept dim w (with_sides n f w)
unfolding with_sides
sides-kept zero dim f w h = kept-all dim w
sides-kept (suc k) dim f w h = kept_on (sides-kept k dim f w (omega arith)) (kept-side dim k (f k) _ h)

pub solution-kept : (dim : ℕ) (w : List Float) → Kept dim w (space_of (solution dim w))
unfolding solution
solution-kept dim w = kept_on (worked_kept dim w) (sides-kept dim dim _ _ (omega arith))

-- ---- What the clearing leaves: zeros

length-zeroed : (n i : ℕ) (w : List Float) → length (zeroed n i w) ≡ length w
unfolding zeroed
length-zeroed zero i w = refl
length-zeroed (suc n) i w = length-zeroed n (i + 1) (set w i nought) ∙ length-set w i nought

zeroed-before : (n i j : ℕ) (w : List Float) → j < i → at (zeroed n i w) j ≡ at w j
unfolding zeroed
zeroed-before zero i j w h = refl
zeroed-before (suc n) i j w h = zeroed-before n (i + 1) j _ (omega arith) ∙ get_or-set_other w i j nought nan (λ e. omega arith)

zeroed-inside : (n i j : ℕ) (w : List Float) → i ≤ j → j < i + n → j < length w → at (zeroed n i w) j ≡ nought
unfolding zeroed
zeroed-inside zero i j w a b h = absurd (omega arith)
zeroed-inside (suc n) i j w a b h =
    ⊎_elim (λ e. zeroed-before n (i + 1) j _ (omega arith) ∙ (rw e (get_or-set_same w j nought nan h)))
    (λ l. zeroed-inside n (i + 1) j (set w i nought) (omega arith) (omega arith) (simp length-set h))
    (eq-or-lt_of_le a)

clear-before : (n q r c dim : ℕ) (w : List Float) → r < q → r < 64 → c < 64 → at (clear_rows n q dim w) (r * 64 + c) ≡ at w (r * 64 + c)
unfolding clear_rows
clear-before zero q r c dim w h hr hc = zeroed-before dim 4096 (r * 64 + c) w (omega arith)
clear-before (suc n) q r c dim w h hr hc = clear-before n (q + 1) r c dim _ (omega arith) hr hc ∙ zeroed-before dim (q * 64) (r * 64 + c) w (omega arith)

module _ (dim r : ℕ) (fits : dim ≤ 64) (row : r < dim) where
  clear-entry : (n q c : ℕ) (w : List Float) → 4160 ≤ length w → q ≤ r → r < q + n → c < dim → at (clear_rows n q dim w) (r * 64 + c) ≡ nought
  unfolding clear_rows
  clear-entry zero q c w l a b hc = absurd (omega arith)
  clear-entry (suc n) q c w l a b hc =
      ⊎_elim (λ e. clear-before n (q + 1) r c dim _ (omega arith) (omega arith) (omega arith) ∙ zeroed-inside dim (q * 64) (r * 64 + c) w (omega arith) (omega arith) (omega arith))
      (λ m. clear-entry n (q + 1) c (zeroed dim (q * 64) w) (omega (arith, length-zeroed dim (q * 64) w)) (omega arith) (omega arith) hc)
      (eq-or-lt_of_le a)

  clear-side : (n q : ℕ) (w : List Float) → 4160 ≤ length w → at (clear_rows n q dim w) (4096 + r) ≡ nought
  unfolding clear_rows
  clear-side zero q w l = zeroed-inside dim 4096 (4096 + r) w (omega arith) (omega arith) (omega arith)
  clear-side (suc n) q w l = clear-side n (q + 1) (zeroed dim (q * 64) w) (omega (arith, length-zeroed dim (q * 64) w))

  pub cleared-entry : (c : ℕ) (w : List Float) → 4160 ≤ length w → c < dim → at (cleared dim w) (r * 64 + c) ≡ nought
  cleared-entry c w l hc = clear-entry dim 0 c w l (omega arith) (omega arith) hc

  pub cleared-side : (w : List Float) → 4160 ≤ length w → at (cleared dim w) (4096 + r) ≡ nought
  cleared-side w l = clear-side dim 0 w l

-- What stood in a lent workspace cannot show: the solve reads only the entries and right sides of the first dim rows, which the clearing writes.
-- Assumes nothing.
use Rattle.std.specs.Prelude.{◌≢◌, ◌≡◌, Bool, true, false, List, eqb, length, set, Float, Ok, Err}
use Rattle.std.proofs.Common.{⊎_elim, sym, ◌∙◌, arith, eqb-true, length-set, get_or-set_same, get_or-set_other}
use Rattle.std.proofs.Math.Path.{refl}
use Prim.Native.Nat.{ℕ, zero, suc, ◌+◌, ◌-◌, ◌*◌, ◌≤◌, ◌<◌}
use Rattle.std.proofs.lemmas.Bool.{eqb-false}
use Rattle.std.proofs.Math.Seq.{set_out}
use Rattle.std.specs.Float.{nan}
use Rattle.real.specs.Tests.{same_or_not, below_or}
use Rattle.real.specs.Literals.{nought}
use Rattle.linsolve.specs.Linear.{at, cleared, added, with_sides, pivot_from, swapped, swap_rows, less, sub_row, whole_row, after_pivot, sub_lower, Answer, Outcome, outcome, answer_of, space_of, reduce, less_known, substitute, finish, worked_out, solution}
use Rattle.linsolve.specs.Linear.Laws.{pivot-below, reduce-end, reduce-singular, reduce-on, cleared-kept, cleared-entry, cleared-side}

-- two workspaces of one length, with room for a matrix and its right sides
pub record Lent (w v : List Float) : Type 0 where
  pub room : 4160 ≤ length w
  pub size : length w ≡ length v

-- and alike in the entries and right sides of the first dim rows
pub record Alike (dim : ℕ) (w v : List Float) : Type 0 where
  pub lent : Lent w v
  pub entry : (r c : ℕ) → r < dim → c < dim → at w (r * 64 + c) ≡ at v (r * 64 + c)
  pub side : (r : ℕ) → r < dim → at w (4096 + r) ≡ at v (4096 + r)

-- one answer, and workspaces that are alike
pub data AlikeOutcomes : ℕ → Outcome → Outcome → Type 0 where
  alike_outcomes : {dim : ℕ} {s : Answer} {w v : List Float} → Alike dim w v → AlikeOutcomes dim (outcome s w) (outcome s v)

-- cleared workspaces are alike, whatever stood there
pub cleared-alike : (dim : ℕ) (w v : List Float) → dim ≤ 64 → Lent w v → Alike dim (cleared dim w) (cleared dim v)
cleared-alike dim w v few l =
    let h : 4160 ≤ length v = omega arith in
    record {
      lent = record { room = omega (arith, (cleared-kept dim w).size); size = (cleared-kept dim w).size ∙ l.size ∙ sym (cleared-kept dim v).size };
      entry = λ r c hr hc. cleared-entry dim r few hr c w l.room hc ∙ sym (cleared-entry dim r few hr c v h hc);
      side = λ r hr. cleared-side dim r few hr w l.room ∙ sym (cleared-side dim r few hr v h);
    }

-- ---- stores

-- the place k after a store at i in each
set-alike : (w v : List Float) (i k : ℕ) (x y : Float) → length w ≡ length v → (at w i ≡ at v i → x ≡ y) → at w k ≡ at v k → at (set w i x) k ≡ at (set v i y) k
set-alike w v i k x y s h e = ⊎_elim here other (same_or_not k i)
  where
    other : k ≢ i → at (set w i x) k ≡ at (set v i y) k
    other d = get_or-set_other w i k x nan d ∙ e ∙ sym (get_or-set_other v i k y nan d)

    here : k ≡ i → at (set w i x) k ≡ at (set v i y) k
    here q =
        ⊎_elim (λ b. rw q (get_or-set_same w i x nan b ∙ h (rw q at e) ∙ sym (get_or-set_same v i y nan (omega arith))))
        (λ b. rw (set_out w i x b, set_out v i y (omega arith)) e)
        (below_or i (length w))

module _ {dim : ℕ} where
  module _ {w v : List Float} (a : Alike dim w v) where
    stored-alike : (i : ℕ) (x y : Float) → (at w i ≡ at v i → x ≡ y) → Alike dim (set w i x) (set v i y)
    stored-alike i x y h =
        let s = a.lent.size in
        record {
          lent = record { room = simp length-set a.lent.room; size = simp length-set s };
          entry = λ r c hr hc. set-alike w v i (r * 64 + c) x y s h (a.entry r c hr hc);
          side = λ r hr. set-alike w v i (4096 + r) x y s h (a.side r hr);
        }

    pub added-alike : (row col : ℕ) (x : Float) → Alike dim (added row col x w) (added row col x v)
    added-alike row col x = stored-alike _ _ _ (λ e. rw e)

    less-alike : (i j : ℕ) (f g : Float) → f ≡ g → at w j ≡ at v j → Alike dim (less i j f w) (less i j g v)
    less-alike i j f g ef ej = stored-alike i _ _ (λ e. rw (e, ej, ef))

  swapped-alike : {w v : List Float} → Alike dim w v → (i j : ℕ) → at w i ≡ at v i → at w j ≡ at v j → Alike dim (swapped i j w) (swapped i j v)
  swapped-alike a i j ei ej = stored-alike (stored-alike a i _ _ (λ e. ej)) j _ _ (λ e. ei)

  pub sides-alike : {w v : List Float} → Alike dim w v → (n : ℕ) (f g : ℕ → Float) → ((r : ℕ) → r < n → f r ≡ g r) → Alike dim (with_sides n f w) (with_sides n g v)
  unfolding with_sides
  sides-alike a zero f g h = a
  sides-alike a (suc k) f g h = stored-alike (sides-alike a k f g (λ r p. h r (omega arith))) (4096 + k) (f k) (g k) (λ e. h k (omega arith))

  -- ---- the solve

  swap_alike : {w v : List Float} → Alike dim w v → (n c p q : ℕ) → c + n ≤ dim → p < dim → q < dim → Alike dim (swap_rows n c p q w) (swap_rows n c p q v)
  unfolding swap_rows
  swap_alike a zero c p q h hp hq = swapped-alike a _ _ (a.side p hp) (a.side q hq)
  swap_alike {w = w} {v = v} a (suc n) c p q h hp hq =
      swap_alike {w = swapped (p * 64 + c) (q * 64 + c) w} (swapped-alike a _ _ (a.entry p c hp (omega arith)) (a.entry q c hq (omega arith))) n (c + 1) p q (omega arith) hp hq

  sub_alike : {w v : List Float} → Alike dim w v → (n c p r : ℕ) (f g : Float) → f ≡ g → n ≡ dim - c → p < dim
      → Alike dim (sub_row n c p r f w) (sub_row n c p r g v)
  unfolding sub_row
  sub_alike a zero c p r f g ef h hp = less-alike a (4096 + r) (4096 + p) f g ef (a.side p hp)
  sub_alike {w = w} {v = v} a (suc n) c p r f g ef h hp =
      sub_alike {w = less (r * 64 + c) (p * 64 + c) f w} (less-alike a (r * 64 + c) (p * 64 + c) f g ef (a.entry p c hp (omega arith))) n (c + 1) p r f g ef (omega arith) hp

  pivot-alike : {w v : List Float} → Alike dim w v → (n r col : ℕ) (best : Float) (p : ℕ) → r + n ≤ dim → col < dim
      → pivot_from n r col best p w ≡ pivot_from n r col best p v
  unfolding pivot_from
  pivot-alike a zero r col best p h hc = refl
  pivot-alike a (suc n) r col best p h hc = rw (a.entry r col (omega arith) hc) (pivot-alike a n (r + 1) col _ _ (omega arith) hc)

  known_alike : {w v : List Float} → Alike dim w v → (n c r : ℕ) (x y : Float) → x ≡ y → c + n ≤ dim → r < dim
      → less_known n c r x w ≡ less_known n c r y v
  unfolding less_known
  known_alike a zero c r x y e h hr = e
  known_alike a (suc n) c r x y e h hr =
      known_alike a n (c + 1) r _ _ (rw (e, a.entry r c hr (omega arith), a.side c (omega arith))) (omega arith) hr

  substitute-alike : {w v : List Float} → Alike dim w v → (n : ℕ) → n ≤ dim → Alike dim (substitute n dim w) (substitute n dim v)
  unfolding substitute
  substitute-alike a zero h = a
  substitute-alike {w = w} {v = v} a (suc r) h =
      substitute-alike {w = set {A = Float} w (4096 + r) (lib.Ieee.div lib.Ieee.binary64 (less_known (dim - (r + 1)) (r + 1) r (at w (4096 + r)) w) (at w (r * 64 + r)))}
      (stored-alike a (4096 + r) _ _ (λ e. rw (known_alike a (dim - (r + 1)) (r + 1) r _ _ e (omega arith) (omega arith), a.entry r r (omega arith) (omega arith))))
      r (omega arith)

  module _ (first : ℕ → ℕ) where
    lower-alike : {w v : List Float} → Alike dim w v → (n r p : ℕ) → r + n ≤ dim → p < dim
        → Alike dim (sub_lower first n r p dim w) (sub_lower first n r p dim v)
    unfolding sub_lower
    lower-alike a zero r p h hp = a
    lower-alike {w = w} {v = v} a (suc n) r p h hp =
        lower-alike {w = sub_row (dim - first p) (first p) p r (lib.Ieee.div lib.Ieee.binary64 (at w (r * 64 + p)) (at w (p * 64 + p))) w} (sub_alike a (dim - first p) (first p) p r _ _ (rw (a.entry r p (omega arith) hp, a.entry p p hp hp)) refl hp) n (r + 1) p (omega arith) hp

    reduce-alike : {w v : List Float} → Alike dim w v → (n col : ℕ) → col + n ≤ dim
        → AlikeOutcomes dim (reduce first n col dim w) (reduce first n col dim v)
    reduce-alike a zero col h = simp reduce-end (alike_outcomes a)
    reduce-alike {w} {v} a (suc n) col h = go (eqb p dim) refl (λ x y b. reduce-alike b n (col + 1) (omega arith))
      where
        p : ℕ
        p = pivot_from (dim - col) col col nought dim w

        same : p ≡ pivot_from (dim - col) col col nought dim v
        same = pivot-alike a (dim - col) col col nought dim (omega arith) (omega arith)

        go : (t : Bool) → eqb p dim ≡ t
            → ((x y : List Float) → Alike dim x y → AlikeOutcomes dim (reduce first n (col + 1) dim x) (reduce first n (col + 1) dim y))
            → AlikeOutcomes dim (reduce first (suc n) col dim w) (reduce first (suc n) col dim v)
        go true e rest =
            let q : p ≡ dim = eqb-true p dim e in
            rw (reduce-singular first n col dim p w refl q, reduce-singular first n col dim p v same q) (alike_outcomes a)
        go false e rest =
            let q : p ≢ dim = eqb-false p dim e in
            let k : p ≤ dim = pivot-below _ _ _ _ _ w dim (omega arith) (omega arith) in
            rw (reduce-on first n col dim p w refl q, reduce-on first n col dim p v same q)
            (rest _ _ (lower-alike (swap_alike a dim 0 col p (omega arith) (omega arith) (omega (arith, q))) (dim - (col + 1)) (col + 1) col (omega arith) (omega arith)))

    worked-alike : {w v : List Float} → Alike dim w v → AlikeOutcomes dim (worked_out first dim w) (worked_out first dim v)
    unfolding worked_out
    worked-alike a = go (reduce-alike a dim 0 (omega arith))
      where
        go : {o q : Outcome} → AlikeOutcomes dim o q → AlikeOutcomes dim (finish dim o) (finish dim q)
        go (alike_outcomes {s = Ok x} b) = alike_outcomes (substitute-alike b dim (omega arith))
        go (alike_outcomes {s = Err s} b) = alike_outcomes b

  -- the solve of workspaces that are alike has one answer, and leaves them alike
  pub solution-space : {w v : List Float} → Alike dim w v → AlikeOutcomes dim (solution dim w) (solution dim v)
  unfolding solution
  solution-space a = go (worked-alike whole_row a) (worked-alike after_pivot a)
    where
      by : Outcome → Outcome → Outcome
      by exact ours = outcome (answer_of exact) (with_sides dim (λ r. at (space_of exact) (4096 + r)) (space_of ours))

      go : {o q x y : Outcome} → AlikeOutcomes dim o q → AlikeOutcomes dim x y → AlikeOutcomes dim (by o x) (by q y)
      go (alike_outcomes b) (alike_outcomes c) = alike_outcomes (sides-alike c dim _ _ (λ r h. b.side r h))

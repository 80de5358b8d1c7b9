-- The labels given to the roots met so far, bus after bus, are those of the buses passed. Assumes nothing.
use Prim.Native.Nat.{ℕ, suc, ◌+◌, ◌<◌}
use mathlib.Core.Path.{◌≡◌, refl, sym, ap, ◌∙◌}
use mathlib.Core.Logic.{⊎_elim}
use native.Mathlib.Omega.{arith}
use native.Mathlib.Nat.{not-suc-le-zero, eq-or-lt_of_le}
use native.Mathlib.Numerals.{add-one}
use borrow.Author.Tests.{eq-eqb, ne_eqb}
use borrow.Author.Count.{below_more}
use lib.ListN.{length, get_or, set, replicate, length-set, get_or-replicate}
use lib.Seq.{get_or-set_same, get_or-set_other}
use Rattle.std.specs.Prelude.{Some, None}
use Rattle.islands.specs.declared.Labels.{Labels}
use Rattle.islands.specs.Forest.{or_insert}
use Rattle.islands.specs.Islands.{tally, first_of, is_first, label_by}
use Rattle.islands.specs.Islands.Laws.{tally-yes, tally-no, first_group, first-before, first-le, label_same}

-- the buses below b have their labels at their roots, the other roots have none
pub record Numbered (root : ℕ → ℕ) (b : ℕ) (l : Labels) : Type 0 where
  pub size : length l.of ≡ 32
  pub given : (i : ℕ) → i < b → get_or l.of (root i) None ≡ Some (label_by root i)
  pub free : (r : ℕ) → r < 32 → ((i : ℕ) → i < b → root i ≡ r → ⊥) → get_or l.of r None ≡ None
  pub upto : l.next ≡ tally (is_first root) b

pub none_yet : (root : ℕ → ℕ) → Numbered root 0 (record { of = replicate 32 None; next = 0 })
unfolding tally
none_yet root = record { size = refl; given = λ i h. absurd (not-suc-le-zero h); free = λ r h n. get_or-replicate 32 r None None h; upto = refl }

module _ (root : ℕ → ℕ) (b : ℕ) (l : Labels) (w : Numbered root b l) (h : b < 32) (k : root b < 32) where
  -- a bus that is the first of its group finds its root without a label
  unmet : first_of root b ≡ b → get_or l.of (root b) None ≡ None
  unmet e = w.free (root b) k (λ i q. first-before root b i (omega arith))

  -- any other finds the label of that first bus, its own
  met : first_of root b < b → get_or l.of (root b) None ≡ Some (label_by root b)
  met q =
      ap (λ (r : ℕ). get_or l.of r None) (sym (first_group root b))
      ∙ w.given (first_of root b) q
      ∙ ap (λ (n : ℕ). Some n) (label_same root (first_of root b) b (first_group root b))

  abbrev Turn : Labels → Type 0
  Turn m = Numbered root (b + 1) m × (get_or m.of (root b) None ≡ Some (label_by root b))

  new : first_of root b ≡ b → Turn (record { of = set l.of (root b) (Some l.next); next = l.next + 1 })
  new e =
      let here : get_or (set l.of (root b) (Some l.next)) (root b) None ≡ Some (label_by root b) =
      get_or-set_same l.of (root b) (Some l.next) None (omega (arith, w.size)) ∙ ap (λ (n : ℕ). Some n) (w.upto ∙ ap (tally (is_first root)) (sym e)) in (
        record {
          size = length-set l.of (root b) (Some l.next) ∙ w.size;
          given = below_more _ b (λ i q. get_or-set_other l.of (root b) (root i) (Some l.next) None (first-before root b i (omega arith)) ∙ w.given i q) here;
          free = λ r q n. get_or-set_other l.of (root b) r (Some l.next) None (λ p. n b (omega arith) (sym p)) ∙ w.free r q (λ i u. n i (omega arith));
          upto = rw (add-one, add-one) (ap suc w.upto ∙ sym (tally-yes (is_first root) b (eq-eqb (first_of root b) b e)));
        },
        here,
      )

  old : first_of root b < b → Turn l
  old q = (
    record {
      size = w.size;
      given = below_more _ b w.given (met q);
      free = λ r u n. w.free r u (λ i v. n i (omega arith));
      upto = rw add-one (w.upto ∙ sym (tally-no (is_first root) b (ne_eqb (first_of root b) b (omega arith))));
    },
    met q,
  )

  turn : Turn (or_insert l (root b))
  turn = ⊎_elim (λ e. rw (unmet e) (new e)) (λ q. rw (met q) (old q)) (eq-or-lt_of_le (first-le root b))

  pub numbered-turn : (r : ℕ) (m : Labels) → r ≡ root b → m ≡ or_insert l r → Numbered root (b + 1) m × (get_or m.of r None ≡ Some (label_by root b))
  numbered-turn r m e q = rw (q, e) turn

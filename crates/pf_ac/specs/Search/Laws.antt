-- One start of the search as an equation, for each way that it goes. Assumes nothing.
use Rattle.std.specs.Prelude.{ℕ, zero, suc, ◌+◌, ◌-◌, Bool, true, false, cond, List, ◌≡◌, refl, eqb, Float}
use Rattle.std.proofs.Common.{sym, ◌∙◌}
use Rattle.std.proofs.Math.Path.{ap}
use native.Mathlib.Omega.{arith}
use Rattle.std.specs.Float.Ieee.{lt}
use Rattle.real.specs.Literals.{tolerance}
use Rattle.layout.specs.declared.BusKind.{BusKind}
use Rattle.layout.specs.declared.Point.{Point}
use Rattle.starts.specs.Starts.{from_flat}
use Rattle.qlim.specs.declared.Settled.{Settled}
use Rattle.qlim.specs.Rounds.{Study, Done, done, nothing, qlim_of}
use Rattle.starts.specs.declared.AcStart.{AcStart}
use Rattle.starts.specs.declared.AcStart.TheVariants.{Flat, Case}
use Rattle.pf_ac.specs.declared.AcPf.{AcPf}
use Rattle.pf_ac.specs.declared.AcPf.TheVariants.{Solved, NotConverged}
use Rattle.pf_ac.specs.Search.{nth_start, start_count, better_of, Searched, searched, solved, verdict_of, try_of, search_from, search_of}

pub first-start : (start : AcStart) (n : ℕ) (kinds : List BusKind) (first flat : Point) (i : ℕ) → i ≡ 0 → first ≡ nth_start start n kinds first flat i
unfolding nth_start
first-start start n kinds first flat i e = rw e

pub later-flat : (start : AcStart) (n : ℕ) (kinds : List BusKind) (first flat : Point) (i : ℕ) → start ≡ Flat → (i ≡ 0 → ⊥)
    → from_flat n kinds flat i ≡ nth_start start n kinds first flat i
unfolding nth_start
later-flat start n kinds first flat zero e h = absurd (h refl)
later-flat start n kinds first flat (suc i) e h = rw e

pub later-case : (start : AcStart) (n : ℕ) (kinds : List BusKind) (first flat : Point) (i : ℕ) → start ≡ Case → (i ≡ 0 → ⊥)
    → from_flat n kinds flat (i - 1) ≡ nth_start start n kinds first flat i
unfolding nth_start
later-case start n kinds first flat zero e h = absurd (h refl)
later-case start n kinds first flat (suc i) e h = let q : suc i - 1 ≡ i = omega arith in rw (e, q)

-- what the judgement tells of the residual
module _ (res : Float) (it starts : ℕ) (found : AcPf) (h : found ≡ verdict_of res it starts) where
  pub verdict-below : (i : ℕ) (x : Float) → found ≡ Solved i x → lt res tolerance ≡ true
  verdict-below i x e = go (lt res tolerance) refl
    where
      go : (t : Bool) → lt res tolerance ≡ t → lt res tolerance ≡ true
      go true q = q
      go false q = let k : Solved i x ≡ NotConverged res starts = sym e ∙ rw q at h in cc

  pub verdict-above : (x : Float) (k : ℕ) → found ≡ NotConverged x k → lt res tolerance ≡ false
  verdict-above x k e = go (lt res tolerance) refl
    where
      go : (t : Bool) → lt res tolerance ≡ t → lt res tolerance ≡ false
      go true q = let r : NotConverged x k ≡ Solved it res = sym e ∙ rw q at h in cc
      go false q = q

  pub verdict-solved : lt res tolerance ≡ true → found ≡ Solved it res
  verdict-solved q = rw q at h

module _ (start : AcStart) (s : Study) (kinds : List BusKind) (first flat : Point) where
  pub search-none : (i c : ℕ) → c ≡ start_count start → (best : Settled) (w : List Float)
      → searched (NotConverged best.residual c) best w ≡ search_from 0 i start s kinds first flat best w
  unfolding search_from
  search-none i c e best w = rw e

  module _ (m i : ℕ) (best : Settled) (w : List Float) (p : Point) (ep : p ≡ nth_start start s.n kinds first flat i) (r : Settled) (v : List Float) (er : done r v ≡ qlim_of s kinds p w)
      (yes : Bool) (ey : yes ≡ better_of (eqb i 0) best.residual r.residual) (kept : Settled) (ek : kept ≡ cond yes r best) where
    turn : search_from (suc m) i start s kinds first flat best w ≡ try_of (eqb i 0) best (done r v) (search_from m (i + 1) start s kinds first flat)
    unfolding search_from
    turn = ap (λ (d : Done). try_of (eqb i 0) best d (search_from m (i + 1) start s kinds first flat)) (sym (er ∙ ap (λ (x : Point). qlim_of s kinds x w) ep))

    pub search-ends : (found : AcPf) → found ≡ solved kept → lt kept.residual tolerance ≡ true
        → search_from (suc m) i start s kinds first flat best w ≡ searched found kept v
    search-ends found ef h = turn ∙ try-ends (search_from m (i + 1) start s kinds first flat)
      where
        try-ends : (rest : Settled → List Float → Searched) → try_of (eqb i 0) best (done r v) rest ≡ searched found kept v
        try-ends rest = unfold try_of in rw (← ey, ← ek, h, ef)

    pub search-on : lt kept.residual tolerance ≡ false
        → search_from (suc m) i start s kinds first flat best w ≡ search_from m (i + 1) start s kinds first flat kept v
    search-on h = turn ∙ try-on (search_from m (i + 1) start s kinds first flat)
      where
        try-on : (rest : Settled → List Float → Searched) → try_of (eqb i 0) best (done r v) rest ≡ rest kept v
        try-on rest = unfold try_of in rw (← ey, ← ek, h)

  pub search-begins : (c : ℕ) → c ≡ start_count start → (best : Settled) → best ≡ nothing first → (w : List Float)
      → search_from (c - 0) 0 start s kinds first flat best w ≡ search_of start s kinds first flat w
  unfolding search_of
  search-begins c e best eb w =
      let q : c - 0 ≡ c = omega arith in
      rw eb (ap (λ (k : ℕ). search_from k 0 start s kinds first flat (nothing first) w) (q ∙ e))

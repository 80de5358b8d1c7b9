-- The code keeps the first start's result before its loop, and tests the best so far before the next start: what is then left of the search. Assumes nothing.
use Prim.Native.Nat.{ℕ, zero, suc, ◌+◌, ◌-◌}
use Rattle.std.specs.Prelude.{Bool, true, false, cond, List, ◌≡◌, refl, eqb, Float}
use Rattle.std.proofs.Common.{sym, ◌∙◌}
use Rattle.std.proofs.Math.Path.{ap}
use Rattle.std.proofs.Math.Dec.{eqb-suc-zero}
use Rattle.std.specs.Float.Ieee.{lt}
use Rattle.real.specs.Literals.{tolerance}
use Rattle.layout.specs.declared.BusKind.{BusKind}
use Rattle.layout.specs.declared.Point.{Point}
use Rattle.qlim.specs.declared.Settled.{Settled}
use Rattle.qlim.specs.Rounds.{Study, done, nothing, qlim_of}
use Rattle.starts.specs.declared.AcStart.{AcStart}
use Rattle.starts.specs.declared.AcStart.TheVariants.{Flat, Case}
use Rattle.pf_ac.specs.Search.{nth_start, start_count, better_of, Searched, searched, solved, verdict_of, search_from, search_of}
use Rattle.pf_ac.specs.Search.Laws.{first-start, search-none, search-ends, search-on}

module _ (start : AcStart) (s : Study) (kinds : List BusKind) (first flat : Point) where
  -- the search ends with a best below the tolerance, and else goes on with the next m starts, of which i are tried
  abbrev pub turns_from : ℕ → ℕ → Settled → List Float → Searched
  turns_from m i best w = cond (lt best.residual tolerance) (searched (solved best) best w) (search_from m i start s kinds first flat best w)

  -- it is what the search makes of one start more
  one-turn : (m i : ℕ) (best : Settled) (w : List Float) (p : Point) → p ≡ nth_start start s.n kinds first flat i → (r : Settled) (v : List Float) → done r v ≡ qlim_of s kinds p w
      → (better : Bool) → better ≡ better_of (eqb i 0) best.residual r.residual → (kept : Settled) → kept ≡ cond better r best
      → search_from (suc m) i start s kinds first flat best w ≡ turns_from m (i + 1) kept v
  one-turn m i best w p ep r v er better ey kept ek = go (lt kept.residual tolerance) refl
    where
      go : (t : Bool) → lt kept.residual tolerance ≡ t → search_from (suc m) i start s kinds first flat best w ≡ turns_from m (i + 1) kept v
      go true h = rw h (search-ends start s kinds first flat m i best w p ep r v er better ey kept ek (solved kept) refl h)
      go false h = rw h (search-on start s kinds first flat m i best w p ep r v er better ey kept ek h)

  -- the first start's result is kept
  pub turns-begin : (c : ℕ) → c ≡ start_count start → (r : Settled) (v w : List Float) → done r v ≡ qlim_of s kinds first w
      → turns_from (c - 1) 1 r v ≡ search_of start s kinds first flat w
  unfolding search_of better_of
  turns-begin c e r v w er =
      rw e (sym (one-turn (start_count start - 1) 0 (nothing first) w first (first-start start s.n kinds first flat 0 refl) r v er true refl r refl)
      ∙ ap (λ (k : ℕ). search_from k 0 start s kinds first flat (nothing first) w) (some start))
    where
      some : (x : AcStart) → suc (start_count x - 1) ≡ start_count x
      some Flat = refl
      some Case = refl

  -- a later start, where the best so far is not below the tolerance
  pub turns-on : (m i : ℕ) (best : Settled) (w : List Float) → lt best.residual tolerance ≡ false → (i ≡ 0 → ⊥) → (p : Point) → p ≡ nth_start start s.n kinds first flat i
      → (r : Settled) (v : List Float) → done r v ≡ qlim_of s kinds p w → (better : Bool) → better ≡ better_of false best.residual r.residual → (kept : Settled) → kept ≡ cond better r best
      → turns_from (suc m) i best w ≡ turns_from m (i + 1) kept v
  turns-on m zero best w h n p ep r v er better ey kept ek = absurd (n refl)
  turns-on m (suc i) best w h n p ep r v er better ey kept ek = rw h (one-turn m (suc i) best w p ep r v er better (rw (eqb-suc-zero i) ey) kept ek)

  -- none is left, or the best so far is below the tolerance
  pub turns-none : (i c : ℕ) → c ≡ start_count start → (best : Settled) (w : List Float)
      → searched (verdict_of best.residual best.ended.iterations c) best w ≡ turns_from 0 i best w
  turns-none i c e best w = go (lt best.residual tolerance) refl
    where
      go : (t : Bool) → lt best.residual tolerance ≡ t → searched (verdict_of best.residual best.ended.iterations c) best w ≡ turns_from 0 i best w
      go true h = rw h refl
      go false h = rw h (search-none start s kinds first flat i c e best w)

  pub turns-end : (m i c : ℕ) (best : Settled) (w : List Float) → lt best.residual tolerance ≡ true
      → searched (verdict_of best.residual best.ended.iterations c) best w ≡ turns_from m i best w
  turns-end m i c best w h = rw h

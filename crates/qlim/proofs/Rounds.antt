-- One round of those that are left, for each way that it goes, with what the code has at hand. Assumes nothing.
use Prim.Native.Nat.{ℕ, suc}
use Rattle.std.specs.Prelude.{Bool, true, false, cond, Option, None, Some, refl, List, ◌≡◌, Float}
use Rattle.std.proofs.Common.{◌∙◌}
use Rattle.std.specs.Float.Ieee.{le}
use Rattle.std.specs.Option.{is_some}
use Rattle.real.specs.Tests.{no-case}
use Rattle.real.specs.Literals.{tolerance}
use Rattle.layout.specs.declared.BusKind.{BusKind}
use Rattle.layout.specs.declared.AcPfLayout.{AcPfLayout}
use Rattle.layout.specs.declared.Point.{Point}
use Rattle.layout.specs.Layout.{layout_of}
use Rattle.injections.specs.Injections.{injected_of}
use Rattle.newton.specs.declared.Ended.{Ended}
use Rattle.newton.specs.Newton.{problem, newton_of, run}
use Rattle.moves.specs.declared.Move.{Move}
use Rattle.moves.specs.declared.Track.{Track}
use Rattle.moves.specs.Moves.{moves_of, any_move, kinds_after, track_after, pinned}
use Rattle.qlim.specs.Rounds.{Study, done, infinity, settle_of, problem_for, moves_at, moves_after, rounds_from}
use Rattle.qlim.specs.Rounds.Laws.{round-short, round-still, round-moved, follows, turn, same-moves}

-- the same of the rounds, with what the code has at hand: the layout and Newton's end
module _ (s : Study) (kinds : List BusKind) (t : Track) (p : Point) (w : List Float) (l : AcPfLayout) (el : l ≡ layout_of s.n kinds)
    (e : Ended) (v : List Float) (ee : run e v ≡ newton_of (problem s.y l s.pd s.qd s.pg t.qsched) p w) where
  pub rounds-short : (k : ℕ) → le tolerance e.residual ≡ true → rounds_from k s kinds t p w ≡ done (settle_of s.n kinds t.qsched e e.residual) v
  rounds-short k h = turn s kinds t p w l el e v ee k ∙ round-short s kinds t e v (follows s kinds t p w l el e v ee k) h

  module _ (h : le tolerance e.residual ≡ false) (ms : List Move)
      (em : ms ≡ moves_of s.n kinds s.limits t s.qd (injected_of s.n e.phasors).q e.point.vm s.hold) where
    pub rounds-still : (k : ℕ) → any_move s.n ms ≡ false → rounds_from k s kinds t p w ≡ done (settle_of s.n kinds t.qsched e e.residual) v
    rounds-still k ha = turn s kinds t p w l el e v ee k ∙ round-still s kinds t e v (follows s kinds t p w l el e v ee k) h ms (same-moves s kinds t p w l el e v ee h ms em) ha

    pub rounds-spent : any_move s.n ms ≡ true → rounds_from 0 s kinds t p w ≡ done (settle_of s.n kinds t.qsched e infinity) v
    rounds-spent ha = turn s kinds t p w l el e v ee 0 ∙ round-moved s kinds t e v (follows s kinds t p w l el e v ee 0) h ms (same-moves s kinds t p w l el e v ee h ms em) ha

    pub rounds-on : (k : ℕ) → any_move s.n ms ≡ true → (next : List BusKind) → next ≡ kinds_after s.n kinds ms
        → (u : Track) → u ≡ track_after s.n t s.limits s.qg ms → (q : Point) → q ≡ pinned s.n next s.hold e.point
        → rounds_from (suc k) s kinds t p w ≡ rounds_from k s next u q v
    rounds-on k ha next en u eu q eq =
        turn s kinds t p w l el e v ee (suc k) ∙ round-moved s kinds t e v (follows s kinds t p w l el e v ee (suc k)) h ms (same-moves s kinds t p w l el e v ee h ms em) ha ∙ rw (← (same-moves s kinds t p w l el e v ee h ms em), ← en, ← eu, ← eq)

-- the same as the code has them: the moves, or none where they end the rounds
module _ (s : Study) (kinds : List BusKind) (t : Track) (p : Point) (w : List Float) (e : Ended) (v : List Float) (ee : run e v ≡ newton_of (problem_for s kinds t) p w) where
  pub rounds-end : (k : ℕ) → None ≡ moves_after s kinds t e → rounds_from k s kinds t p w ≡ done (settle_of s.n kinds t.qsched e e.residual) v
  unfolding moves_after
  rounds-end k h = go (le tolerance e.residual) refl (any_move s.n (moves_at s kinds t e)) refl h
    where
      go : (a : Bool) → le tolerance e.residual ≡ a → (b : Bool) → any_move s.n (moves_at s kinds t e) ≡ b
          → None ≡ cond a None (cond b (Some (moves_at s kinds t e)) None) → rounds_from k s kinds t p w ≡ done (settle_of s.n kinds t.qsched e e.residual) v
      go true ea b eb q = rounds-short s kinds t p w (layout_of s.n kinds) refl e v ee k ea
      go false ea false eb q = rounds-still s kinds t p w (layout_of s.n kinds) refl e v ee ea (moves_at s kinds t e) refl k eb
      go false ea true eb q = no-case cc

  -- what a round's moves say of it
  moved : (ms : List Move) → Some ms ≡ moves_after s kinds t e → (le tolerance e.residual ≡ false) × (ms ≡ moves_at s kinds t e) × (any_move s.n ms ≡ true)
  unfolding moves_after
  moved ms h = go (le tolerance e.residual) refl (any_move s.n (moves_at s kinds t e)) refl h
    where
      go : (a : Bool) → le tolerance e.residual ≡ a → (b : Bool) → any_move s.n (moves_at s kinds t e) ≡ b
          → Some ms ≡ cond a None (cond b (Some (moves_at s kinds t e)) None) → (le tolerance e.residual ≡ false) × (ms ≡ moves_at s kinds t e) × (any_move s.n ms ≡ true)
      go true ea b eb q = no-case cc
      go false ea false eb q = no-case cc
      go false ea true eb q = let m : ms ≡ moves_at s kinds t e = cc in (ea, m, rw m eb)

  pub rounds-go_on : (ms : List Move) → Some ms ≡ moves_after s kinds t e → (k : ℕ) → (next : List BusKind) → next ≡ kinds_after s.n kinds ms
      → (u : Track) → u ≡ track_after s.n t s.limits s.qg ms → (q : Point) → q ≡ pinned s.n next s.hold e.point
      → rounds_from (suc k) s kinds t p w ≡ rounds_from k s next u q v
  rounds-go_on ms h k = let m = moved ms h in rounds-on s kinds t p w (layout_of s.n kinds) refl e v ee m.0 ms m.1 k m.2

  pub rounds-last : (m : Option (List Move)) → m ≡ moves_after s kinds t e → (res : Float) → res ≡ cond (is_some m) infinity e.residual
      → rounds_from 0 s kinds t p w ≡ done (settle_of s.n kinds t.qsched e res) v
  rounds-last None h res er = rw er (rounds-end 0 h)
  rounds-last (Some ms) h res er = let m = moved ms h in rw er (rounds-spent s kinds t p w (layout_of s.n kinds) refl e v ee m.0 ms m.1 m.2)

-- One round as an equation, for each way that it goes. Assumes nothing.
use Prim.Native.Nat.{ℕ, zero, suc}
use Rattle.std.specs.Prelude.{true, false, List, ◌≡◌, Float}
use Rattle.std.proofs.Common.{sym, ◌∙◌}
use Rattle.std.proofs.Math.Path.{ap}
use Rattle.std.specs.Float.Ieee.{le}
use Rattle.real.specs.Literals.{tolerance}
use Rattle.layout.specs.declared.BusKind.{BusKind}
use Rattle.layout.specs.declared.AcPfLayout.{AcPfLayout}
use Rattle.layout.specs.declared.Point.{Point}
use Rattle.layout.specs.Layout.{layout_of}
use Rattle.injections.specs.Injections.{phasors_of, injected_of}
use Rattle.newton.specs.declared.Ended.{Ended}
use Rattle.newton.specs.Newton.{GoodProblem, problem, measured_of, newton_of, Run, run}
use Rattle.newton.specs.Newton.Laws.{end-at}
use Rattle.layout.specs.Layout.Laws.{dim-most}
use Rattle.moves.specs.declared.Move.{Move}
use Rattle.moves.specs.declared.Track.{Track}
use Rattle.moves.specs.Moves.{moves_of, any_move, kinds_after, track_after, pinned}
use Rattle.qlim.specs.Rounds.{Study, GoodStudy, Done, infinity, problem_for, moves_in, done_with, round_of, last_round, earlier_round, rounds_from, fresh, qlim_of}

-- a round, once Newton's end e and the workspace v that it leaves are known
module _ (s : Study) (kinds : List BusKind) (t : Track) (e : Ended) (v : List Float) (after : Done) where
  pub round-short : le tolerance e.residual ≡ true → round_of s kinds t (run e v) after ≡ done_with s kinds t (run e v) e.residual
  unfolding round_of
  round-short h = rw h

  module _ (h : le tolerance e.residual ≡ false) (ms : List Move) (em : ms ≡ moves_in s kinds t e) where
    pub round-still : any_move s.n ms ≡ false → round_of s kinds t (run e v) after ≡ done_with s kinds t (run e v) e.residual
    unfolding round_of
    round-still ha = rw (h, ← em, ha)

    pub round-moved : any_move s.n ms ≡ true → round_of s kinds t (run e v) after ≡ after
    unfolding round_of
    round-moved ha = rw (h, ← em, ha)

-- the same of the rounds, with what the code has at hand: the layout and Newton's end
module _ (s : Study) (kinds : List BusKind) (t : Track) (p : Point) (w : List Float) (l : AcPfLayout) (el : l ≡ layout_of s.n kinds)
    (e : Ended) (v : List Float) (ee : run e v ≡ newton_of (problem s.y l s.pd s.qd s.pg t.qsched) p w) where
  same-run : newton_of (problem_for s kinds t) p w ≡ run e v
  same-run = sym (ee ∙ ap (λ (x : AcPfLayout). newton_of (problem s.y x s.pd s.qd s.pg t.qsched) p w) el)

  -- the phasors that Newton hands on are those at its end
  here : e.phasors ≡ phasors_of s.n s.y e.point.vm e.point.va
  unfolding measured_of layout_of
  here = rw (← ee, el) at (end-at (problem s.y l s.pd s.qd s.pg t.qsched) p w)

  -- what follows the moves, where k rounds more may be run
  abbrev pub follows : ℕ → Done
  follows zero = done_with s kinds t (run e v) infinity
  follows (suc k) =
      let next = kinds_after s.n kinds (moves_in s kinds t e) in
      rounds_from k s next (track_after s.n t s.limits s.qg (moves_in s kinds t e)) (pinned s.n next s.hold e.point) v

  pub turn : (k : ℕ) → rounds_from k s kinds t p w ≡ round_of s kinds t (run e v) (follows k)
  unfolding rounds_from
  turn zero = ap (last_round s kinds t) same-run
  turn (suc k) = ap (λ (r : Run). earlier_round s kinds t r (rounds_from k s)) same-run

  module _ (h : le tolerance e.residual ≡ false) (ms : List Move)
      (em : ms ≡ moves_of s.n kinds s.limits t s.qd (injected_of s.n e.phasors).q e.point.vm s.hold) where
    pub same-moves : ms ≡ moves_in s kinds t e
    same-moves = rw here at em

pub rounds-begin : (s : Study) (kinds : List BusKind) (p start : Point) → start ≡ pinned s.n kinds s.hold p
    → (w : List Float) → rounds_from 11 s kinds (fresh s.qg) start w ≡ qlim_of s kinds p w
unfolding qlim_of
rounds-begin s kinds p start es w = by 11
  where
    by : (m : ℕ) → rounds_from m s kinds (fresh s.qg) start w ≡ rounds_from m s kinds (fresh s.qg) (pinned s.n kinds s.hold p) w
    by m = rw es

-- a good study makes a good problem, under any kinds
pub good-problem : (s : Study) → GoodStudy s → (kinds : List BusKind) (l : AcPfLayout) → l ≡ layout_of s.n kinds → (qg : List Float)
    → GoodProblem (problem s.y l s.pd s.qd s.pg qg)
unfolding layout_of
good-problem s r kinds l el qg =
    rw el (record { good = r.good; small = dim-most s.n kinds r.good.few; demands = r.demands; reactive = r.reactive; dispatch = r.dispatch })

-- 01, "Limits": at most 12 rounds. A residual >= 1e-8 ends them; NaN does not, and switching goes on. Twelve rounds without settling give infinity. The
-- kinds given are those Newton used.
pub mod Laws
pub mod Unread
pub mod Space
use Rattle.std.specs.Prelude.{ℕ, zero, suc, ◌≤◌, false, cond, List, length, replicate, Float, Option, None, Some}
use Rattle.std.specs.Float.{inf}
use Rattle.std.specs.Float.Ieee.{le}
use Rattle.real.specs.Literals.{nought, tolerance}
use Rattle.complex.specs.declared.Complex.{Complex}
use Rattle.complex.specs.Numbers as Numbers
use Rattle.layout.specs.declared.BusKind.{BusKind}
use Rattle.layout.specs.declared.BusKind.TheVariants.{Slack}
use Rattle.layout.specs.declared.Limits.{Limits}
use Rattle.layout.specs.Layout.{layout_of}
use Rattle.network.specs.Network.{Triplets}
use Rattle.network.specs.Columns.{triplets_in}
use Rattle.injections.specs.Injections.{GoodTriplets, injected_of, injections_of}
use Rattle.layout.specs.declared.Point.{Point}
use Rattle.newton.specs.declared.Ended.{Ended}
use Rattle.newton.specs.declared.Ending.TheVariants.{Spent}
use Rattle.newton.specs.Newton.{Problem, problem, Run, newton_of, ended_of, space_after}
use Rattle.moves.specs.declared.Move.{Move}
use Rattle.moves.specs.declared.Track.{Track}
use Rattle.qlim.specs.declared.QlimStudy.{QlimStudy}
use Rattle.qlim.specs.declared.Settled.{Settled}
use Rattle.moves.specs.Moves.{moves_of, any_move, kinds_after, track_after, pinned, schedule_of, kept_kinds}

-- what stays the same through the rounds: demands, scheduled generation, the limits and the held voltages of the n buses
pub record Study : Type 0 where
  pub n : ℕ
  pub y : Triplets
  pub pd : List Float
  pub qd : List Float
  pub pg : List Float
  pub qg : List Float
  pub limits : Limits
  pub hold : List Float

abbrev pub study : ℕ → Triplets → List Float → List Float → List Float → List Float → Limits → List Float → Study
study n y pd qd pg qg limits hold = record { n = n; y = y; pd = pd; qd = qd; pg = pg; qg = qg; limits = limits; hold = hold }

-- the same of the program's columns
abbrev pub study_in : QlimStudy → Study
study_in s = study s.n (triplets_in s.y) s.pd.now s.qd.now s.pg.now s.qg s.limits s.hold

-- what the callers have checked
pub record GoodStudy (s : Study) : Type 0 where
  pub good : GoodTriplets s.n s.y
  pub demands : s.n ≤ length s.pd
  pub reactive : s.n ≤ length s.qd
  pub dispatch : s.n ≤ length s.pg

-- what the rounds give, and the workspace that they leave
pub data Done : Type 0 where
  done : Settled → List Float → Done

abbrev pub settled_in : Done → Settled
settled_in (done s w) = s

abbrev pub space_done : Done → List Float
space_done (done s w) = w

abbrev pub infinity : Float
infinity = inf false

-- no rounds: what a search keeps before its first start
abbrev pub nothing : Point → Settled
nothing p =
    let none : List Complex = replicate 32 Numbers.zero in
    record {
      ended = record { point = p; phasors = record { v = none; i = none }; iterations = 0; residual = infinity; ending = Spent };
      kinds = replicate 32 Slack;
      schedule = replicate 32 nought;
      residual = infinity;
    }

-- Newton's end under these kinds and schedules, with a residual
abbrev pub settle_of : ℕ → List BusKind → List Float → Ended → Float → Settled
settle_of n kinds q e res = record { ended = e; kinds = kept_kinds n kinds; schedule = schedule_of n kinds q; residual = res }

-- ---- a round, under kinds and schedules

-- what Newton's steps are run on
abbrev pub problem_for : Study → List BusKind → Track → Problem
problem_for s kinds t = problem s.y (layout_of s.n kinds) s.pd s.qd s.pg t.qsched

-- the moves at their end
abbrev pub moves_in : Study → List BusKind → Track → Ended → List Move
moves_in s kinds t e =
    moves_of s.n kinds s.limits t s.qd (injections_of s.n s.y e.point.vm e.point.va).power.q e.point.vm s.hold

-- the same moves, by the phasors that the end brings with it
abbrev pub moves_at : Study → List BusKind → Track → Ended → List Move
moves_at s kinds t e = moves_of s.n kinds s.limits t s.qd (injected_of s.n e.phasors).q e.point.vm s.hold

-- None where they end the rounds: "a residual >= 1e-8 ends them; NaN does not", and a round after which no bus moves does
unfoldable pub moves_after : Study → List BusKind → Track → Ended → Option (List Move)
moves_after s kinds t e =
    let ms = moves_at s kinds t e in
    cond (le tolerance e.residual) None (cond (any_move s.n ms) (Some ms) None)

-- "the kinds given are those Newton used": its end r, given with a residual
abbrev pub done_with : Study → List BusKind → Track → Run → Float → Done
done_with s kinds t r res = done (settle_of s.n kinds t.qsched (ended_of r) res) (space_after r)

-- "a residual >= 1e-8 ends them; NaN does not". A round after which no bus moves ends them too; else `after` is what follows the moves
unfoldable pub round_of : Study → List BusKind → Track → Run → Done → Done
round_of s kinds t r after =
    let end = done_with s kinds t r (ended_of r).residual in
    cond (le tolerance (ended_of r).residual) end (cond (any_move s.n (moves_in s kinds t (ended_of r))) after end)

-- the last round: where a bus moves even after it, "twelve rounds without settling give infinity"
abbrev pub last_round : Study → List BusKind → Track → Run → Done
last_round s kinds t r = round_of s kinds t r (done_with s kinds t r infinity)

-- an earlier one: `rest` goes on with the kinds and schedules after the moves, from Newton's end with the held magnitudes set
abbrev pub earlier_round : Study → List BusKind → Track → Run → (List BusKind → Track → Point → List Float → Done) → Done
earlier_round s kinds t r rest =
    let ms = moves_in s kinds t (ended_of r) in
    let next = kinds_after s.n kinds ms in
    round_of s kinds t r (rest next (track_after s.n t s.limits s.qg ms) (pinned s.n next s.hold (ended_of r).point) (space_after r))

-- ---- all rounds

-- a round, and at most k more
unfoldable pub rounds_from : ℕ → Study → List BusKind → Track → Point → List Float → Done
rounds_from zero s kinds t p w = last_round s kinds t (newton_of (problem_for s kinds t) p w)
rounds_from (suc k) s kinds t p w = earlier_round s kinds t (newton_of (problem_for s kinds t) p w) (rounds_from k s)

-- nothing converted, everything as scheduled
abbrev pub fresh : List Float → Track
fresh qg = record { qsched = qg; converted = replicate 32 None; reverted = replicate 32 false }

-- "at most 12 rounds": the first, from the start with the held magnitudes set, and 11 more
unfoldable pub qlim_of : Study → List BusKind → Point → List Float → Done
qlim_of s kinds p w = rounds_from 11 s kinds (fresh s.qg) (pinned s.n kinds s.hold p) w

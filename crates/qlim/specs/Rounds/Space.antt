-- What stood in a lent workspace cannot show in what the rounds give. Assumes nothing.
use Prim.Native.Nat.{ℕ, zero, suc, ◌≤◌}
use Rattle.std.specs.Prelude.{List, Float}
use Rattle.std.specs.Float.Ieee.{le}
use Rattle.real.specs.Literals.{tolerance}
use Rattle.layout.specs.declared.BusKind.{BusKind}
use Rattle.layout.specs.declared.Point.{Point}
use Rattle.newton.specs.Newton.{Run}
use Rattle.newton.specs.Newton.Space.{either, Lent, AlikeRuns, alike_runs, layout-inside, newton-space}
use Rattle.moves.specs.declared.Track.{Track}
use Rattle.moves.specs.Moves.{any_move, pinned}
use Rattle.qlim.specs.declared.Settled.{Settled}
use Rattle.qlim.specs.Rounds.{Study, Done, done, problem_for, moves_in, round_of, last_round, earlier_round, rounds_from, fresh, qlim_of}

-- one result, and workspaces of one length
pub data AlikeDone : Done → Done → Type 0 where
  alike_done : {s : Settled} {w v : List Float} → Lent w v → AlikeDone (done s w) (done s v)

module _ (s : Study) where
  module _ (kinds : List BusKind) (t : Track) where
    round-alike : {r q : Run} {d e : Done} → AlikeRuns r q → AlikeDone d e → AlikeDone (round_of s kinds t r d) (round_of s kinds t q e)
    unfolding round_of
    round-alike (alike_runs {e = x} l) h =
        either AlikeDone (le tolerance x.residual) (alike_done l) (either AlikeDone (any_move s.n (moves_in s kinds t x)) h (alike_done l))

    last-alike : {r q : Run} → AlikeRuns r q → AlikeDone (last_round s kinds t r) (last_round s kinds t q)
    last-alike (alike_runs l) = round-alike (alike_runs l) (alike_done l)

    earlier-alike : {r q : Run} → AlikeRuns r q → (rest : List BusKind → Track → Point → List Float → Done)
        → ((kinds : List BusKind) (t : Track) (p : Point) (w v : List Float) → Lent w v → AlikeDone (rest kinds t p w) (rest kinds t p v))
        → AlikeDone (earlier_round s kinds t r rest) (earlier_round s kinds t q rest)
    earlier-alike (alike_runs l) rest h = round-alike (alike_runs l) (h _ _ _ _ _ l)

  module _ (few : s.n ≤ 32) where
    rounds-alike : (k : ℕ) (kinds : List BusKind) (t : Track) (p : Point) (w v : List Float) → Lent w v → AlikeDone (rounds_from k s kinds t p w) (rounds_from k s kinds t p v)
    unfolding rounds_from
    rounds-alike zero kinds t p w v a = last-alike kinds t (newton-space (problem_for s kinds t) (layout-inside s.n kinds few) p a)
    rounds-alike (suc k) kinds t p w v a =
        earlier-alike kinds t (newton-space (problem_for s kinds t) (layout-inside s.n kinds few) p a) (rounds_from k s) (rounds-alike k)

    pub rounds-space : (kinds : List BusKind) (p : Point) {w v : List Float} → Lent w v → AlikeDone (qlim_of s kinds p w) (qlim_of s kinds p v)
    unfolding qlim_of
    rounds-space kinds p a = rounds-alike 11 kinds (fresh s.qg) (pinned s.n kinds s.hold p) _ _ a

-- Demand 3 at this level: what the rounds give does not change with withheld figures. Assumes nothing.
use Prim.Native.Nat.{ℕ, zero, suc, ◌≤◌}
use Rattle.std.specs.Prelude.{◌≡◌, Float}
use mathlib.Core.List.{List}
use Rattle.std.proofs.Common.{◌∙◌}
use Rattle.std.proofs.Math.Path.{ap}
use Rattle.layout.specs.declared.BusKind.{BusKind}
use Rattle.layout.specs.declared.Point.{Point}
use Rattle.newton.specs.Newton.{Run}
use Rattle.moves.specs.Moves.{pinned}
use Rattle.qlim.specs.Rounds.{Study, study, Done, last_round, earlier_round, rounds_from, fresh, qlim_of}
use Rattle.qlim.specs.Rounds.Unread.{AlikeStudies, with, track, Alike, newton-alike, last-alike, earlier-alike, begin}

module _ (d : List BusKind) (s u : Study) (few : s.n ≤ 32) (a : AlikeStudies d s u) where
  rounds-alike : (k : ℕ) → Alike d s u few a (rounds_from k s) (rounds_from k (with s u))
  unfolding rounds_from
  rounds-alike zero kinds c r x y i p w = ap (last_round s kinds (track x c r)) (newton-alike d s u few a kinds c x y i p w) ∙ last-alike d s u few a kinds c r x y i _
  rounds-alike (suc k) kinds c r x y i p w =
      ap (λ (e : Run). earlier_round s kinds (track x c r) e (rounds_from k s)) (newton-alike d s u few a kinds c x y i p w)
      ∙ earlier-alike d s u few a kinds c r x y i _ (rounds_from k s) (rounds_from k (with s u)) (rounds-alike k)

-- whatever the start and the workspace
pub rounds-unread : (kinds : List BusKind) (s u : Study) → s.n ≤ 32 → AlikeStudies kinds s u → (p : Point) (w : List Float)
    → qlim_of s kinds p w ≡ qlim_of u kinds p w
unfolding qlim_of
rounds-unread kinds s u few a p w = by 11
  where
    -- the start, over any number of rounds
    from : ℕ → Study → Done
    from m t = rounds_from m t kinds (fresh t.qg) (pinned t.n kinds t.hold p) w

    by : (m : ℕ) → from m s ≡ from m u
    by m =
        rounds-alike kinds s u few a m kinds _ _ _ _ (begin kinds s u few a) _ w
        ∙ (λ j. from m (study (a.same_n j) (a.same_y j) u.pd u.qd u.pg u.qg (record { qmin = u.limits.qmin; qmax = u.limits.qmax; has_gen = a.same_gens j }) (a.same_hold j)))

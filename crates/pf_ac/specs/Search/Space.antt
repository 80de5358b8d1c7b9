-- What stood in a lent workspace cannot show in what the search gives. Assumes nothing.
use Prim.Native.Nat.{ℕ, zero, suc, ◌+◌, ◌≤◌}
use Rattle.std.specs.Prelude.{Bool, cond, List, eqb, Float}
use Rattle.std.specs.Float.Ieee.{lt}
use Rattle.real.specs.Literals.{tolerance}
use Rattle.layout.specs.declared.BusKind.{BusKind}
use Rattle.layout.specs.declared.Point.{Point}
use Rattle.newton.specs.Newton.Space.{either, Lent}
use Rattle.qlim.specs.declared.Settled.{Settled}
use Rattle.qlim.specs.Rounds.{Study, Done, nothing}
use Rattle.qlim.specs.Rounds.Space.{AlikeDone, alike_done, rounds-space}
use Rattle.starts.specs.declared.AcStart.{AcStart}
use Rattle.pf_ac.specs.declared.AcPf.{AcPf}
use Rattle.pf_ac.specs.Search.{nth_start, start_count, better_of, Searched, searched, try_of, search_from, search_of}

-- one outcome and one result kept, and workspaces of one length
pub data AlikeSearched : Searched → Searched → Type 0 where
  alike_searched : {found : AcPf} {best : Settled} {w v : List Float} → Lent w v → AlikeSearched (searched found best w) (searched found best v)

try-alike : (first : Bool) (best : Settled) {d e : Done} → AlikeDone d e → (rest : Settled → List Float → Searched)
    → ((kept : Settled) (w v : List Float) → Lent w v → AlikeSearched (rest kept w) (rest kept v)) → AlikeSearched (try_of first best d rest) (try_of first best e rest)
unfolding try_of
try-alike first best (alike_done {s = s} l) rest h =
    let kept = cond (better_of first best.residual s.residual) s best in
    either AlikeSearched (lt kept.residual tolerance) (alike_searched l) (h kept _ _ l)

module _ (start : AcStart) (s : Study) (few : s.n ≤ 32) (kinds : List BusKind) (first flat : Point) where
  search-alike : (m i : ℕ) (best : Settled) (w v : List Float) → Lent w v
      → AlikeSearched (search_from m i start s kinds first flat best w) (search_from m i start s kinds first flat best v)
  unfolding search_from
  search-alike zero i best w v l = alike_searched l
  search-alike (suc m) i best w v l =
      try-alike (eqb i 0) best (rounds-space s few kinds (nth_start start s.n kinds first flat i) l) (search_from m (i + 1) start s kinds first flat) (search-alike m (i + 1))

  pub search-space : {w v : List Float} → Lent w v → AlikeSearched (search_of start s kinds first flat w) (search_of start s kinds first flat v)
  unfolding search_of
  search-space l = search-alike (start_count start) 0 (nothing first) _ _ l

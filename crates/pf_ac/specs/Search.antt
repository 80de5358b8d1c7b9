-- 01, "Starts": case first if chosen, then flat, then four perturbed. Kept: the first, then any non-NaN result that is smaller or follows a NaN. The first
-- below 1e-8 ends the search.
pub mod Laws
pub mod Space
use Rattle.std.specs.Prelude.{ℕ, zero, suc, ◌+◌, Bool, true, false, cond, List, eqb, Float}
use Rattle.std.specs.Float.Ieee.{lt, is_nan}
use Rattle.real.specs.Literals.{tolerance}
use Rattle.layout.specs.declared.BusKind.{BusKind}
use Rattle.layout.specs.declared.Point.{Point}
use Rattle.starts.specs.declared.References.{References}
use Rattle.starts.specs.Starts.{case_of, from_flat}
use Rattle.qlim.specs.declared.Settled.{Settled}
use Rattle.qlim.specs.Rounds.{Study, Done, nothing, settled_in, space_done, qlim_of}
use Rattle.starts.specs.declared.AcStart.{AcStart}
use Rattle.starts.specs.declared.AcStart.TheVariants.{Flat, Case}
use Rattle.pf_ac.specs.declared.AcPf.{AcPf}
use Rattle.pf_ac.specs.declared.AcPf.TheVariants.{Solved, NotConverged}

-- the first start: the stored state if chosen, else the flat one
abbrev pub first_start : AcStart → ℕ → List Float → List Float → List Float → References → Point → Point
first_start Flat n set vm va r flat = flat
first_start Case n set vm va r flat = case_of n set vm va r

-- start i: after the first, those from the flat one on
abbrev pub later_of : AcStart → ℕ → List BusKind → Point → ℕ → Point
later_of Flat n kinds flat i = from_flat n kinds flat (suc i)
later_of Case n kinds flat i = from_flat n kinds flat i

unfoldable pub nth_start : AcStart → ℕ → List BusKind → Point → Point → ℕ → Point
nth_start start n kinds first flat zero = first
nth_start start n kinds first flat (suc i) = later_of start n kinds flat i

-- 5 flat, 6 case
abbrev pub start_count : AcStart → ℕ
start_count Flat = 5
start_count Case = 6

-- whether a result replaces the one kept
unfoldable pub better_of : Bool → Float → Float → Bool
better_of first best res = cond first true (cond (is_nan res) false (cond (is_nan best) true (lt res best)))

-- the outcome, the result kept, and the workspace
pub data Searched : Type 0 where
  searched : AcPf → Settled → List Float → Searched

abbrev pub solved : Settled → AcPf
solved s = Solved s.ended.iterations s.residual

-- what the residual and the iterations of the result kept make of the search
abbrev pub verdict_of : Float → ℕ → ℕ → AcPf
verdict_of res iterations starts = cond (lt res tolerance) (Solved iterations res) (NotConverged res starts)

-- "The first below 1e-8 ends the search": what a start's result d makes of the best so far; else `rest` goes on with the one kept
unfoldable pub try_of : Bool → Settled → Done → (Settled → List Float → Searched) → Searched
try_of first best d rest =
    let s = settled_in d in
    let kept = cond (better_of first best.residual s.residual) s best in
    cond (lt kept.residual tolerance) (searched (solved kept) kept (space_done d)) (rest kept (space_done d))

-- the next m starts, of which i are tried
unfoldable pub search_from : ℕ → ℕ → AcStart → Study → List BusKind → Point → Point → Settled → List Float → Searched
search_from zero i start s kinds first flat best w = searched (NotConverged best.residual (start_count start)) best w
search_from (suc m) i start s kinds first flat best w =
    try_of (eqb i 0) best (qlim_of s kinds (nth_start start s.n kinds first flat i) w) (search_from m (i + 1) start s kinds first flat)

-- before the first start nothing is kept
unfoldable pub search_of : AcStart → Study → List BusKind → Point → Point → List Float → Searched
search_of start s kinds first flat w = search_from (start_count start) 0 start s kinds first flat (nothing first) w

-- 01, "Tables and sizes", with 02's Ask 1: the solve over tables, refusals included: the checks, the run, the writing.
pub mod Laws
pub mod Withheld
pub mod Space
use Rattle.std.specs.Prelude.{ℕ, cond, List, length, Float, Result, Ok, Err}
use Rattle.real.specs.Paper.{Paper}
use Rattle.network.specs.Network.{Network, bus_count}
use Rattle.network.specs.Checks.{counted}
use Rattle.network.specs.Missing.{missing_in}
use Rattle.qlim.specs.declared.Settled.{Settled}
use Rattle.starts.specs.declared.AcStart.{AcStart}
use Rattle.pf_ac.specs.declared.AcPf.{AcPf}
use Rattle.pf_ac.specs.Search.{Searched, searched}
use Rattle.pf_ac.specs.WithStart.{ac_pf_of}
use Rattle.outcome.specs.declared.Refusal.{Refusal}
use Rattle.outcome.specs.declared.Refusal.TheVariants.{Counts, Room}
use Rattle.outcome.specs.declared.Lengths.{Lengths}
use Rattle.outcome.specs.Outcome.{refusal_paper, Outs, lengths_in, roomy, bus_refusal, zeros, Written, written, write_of}

-- ---- the checks and the run

-- 7, 9, 8, 11, 12, 13, in that order
unfoldable pub checked_of : Network → Lengths → ℕ → Result (Unit {0}) Refusal
checked_of t m space =
    cond (counted t) (cond (roomy (bus_count t) m space) (bus_refusal (missing_in t)) (Err Room)) (Err Counts)

-- the result kept, with the workspace cleared
pub data Ran : Type 0 where
  ran : AcPf → Settled → List Float → Ran

abbrev pub ran_of : Searched → List Float → Ran
ran_of (searched found best v) w = ran found best (zeros w)

unfoldable pub run_of : AcStart → Network → List Float → Ran
run_of start t w = ran_of (ac_pf_of start t w) w

-- ---- the call

pub record Answer : Type 0 where
  pub paper : Paper (ℕ × Float)
  pub columns : Outs
  pub space : List Float

abbrev pub answer : Paper (ℕ × Float) → Outs → List Float → Answer
answer r o w = record { paper = r; columns = o; space = w }

abbrev pub with_space : Written → List Float → Answer
with_space (written r o) w = answer r o w

abbrev pub after_run : Network → Outs → Ran → Answer
after_run t o (ran found best w) = with_space (write_of (bus_count t) t.triplets found best.ended.point best.kinds o) w

-- a refusal of the checks leaves all lent memory untouched; 10 leaves the answer columns untouched
abbrev pub after_check : AcStart → Network → Outs → List Float → Result (Unit {0}) Refusal → Answer
after_check start t o w (Ok x) = after_run t o (run_of start t w)
after_check start t o w (Err r) = answer (refusal_paper r) o w

unfoldable pub solve_of : AcStart → Network → Outs → List Float → Answer
solve_of start t o w = after_check start t o w (checked_of t (lengths_in o) (length w))

-- Each way out of the call, what its checks tell, and that its contract fixes everything. Assumes nothing.
use Rattle.std.specs.Prelude.{ℕ, Bool, List, ◌≡◌, length, Float, Option, Some, None, Result, Ok, Err}
use Rattle.std.proofs.Math.Bool.{true, false}
use Rattle.std.proofs.Math.Path.{refl}
use Rattle.std.proofs.Common.{sym, ap, ◌∙◌}
use Rattle.real.specs.Tests.{no-case}
use Rattle.network.specs.Network.{Network, bus_count}
use Rattle.network.specs.Checks.{counted, WellIndexed}
use Rattle.network.specs.Checks.Laws.{sized-counted}
use Rattle.network.specs.Missing.{missing_in}
use Rattle.network.specs.Missing.Laws.{means-missing}
use Rattle.network.specs.declared.MissingBus.{MissingBus}
use Rattle.qlim.specs.declared.Settled.{Settled}
use Rattle.starts.specs.declared.AcStart.{AcStart}
use Rattle.pf_ac.specs.declared.AcPf.{AcPf}
use Rattle.pf_ac.specs.Search.{searched}
use Rattle.pf_ac.specs.WithStart.{ac_pf_of}
use Rattle.outcome.specs.declared.Solved.{Solved}
use Rattle.outcome.specs.declared.Refusal.{Refusal}
use Rattle.outcome.specs.declared.Refusal.TheVariants.{Counts, Room}
use Rattle.outcome.specs.declared.Lengths.{Lengths}
use Rattle.outcome.specs.Outcome.{paper_of, refusal_paper, Outs, lengths_in, roomy, row_refusal, bus_refusal, written, write_of, zeros}
use Rattle.outcome.specs.Outcome.Laws.{paper-one}
use Rattle.tables.specs.Tables.{Answer, checked_of, ran, run_of, answer, after_run, solve_of}

-- ---- the checks

module _ (t : Network) (m : Lengths) (space : ℕ) where
  pub check-counts : counted t ≡ false → Err Counts ≡ checked_of t m space
  unfolding checked_of
  check-counts h = rw h

  pub check-room : counted t ≡ true → roomy (bus_count t) m space ≡ false → Err Room ≡ checked_of t m space
  unfolding checked_of
  check-room h hr = rw (h, hr)

  -- the search for a missing bus decides between its refusals and going on
  pub check-buses : counted t ≡ true → roomy (bus_count t) m space ≡ true → bus_refusal (missing_in t) ≡ checked_of t m space
  unfolding checked_of
  check-buses h hr = rw (h, hr)

  -- what it tells that they are met
  pub record Met : Type 0 where
    pub is_counted : counted t ≡ true
    pub is_roomy : roomy (bus_count t) m space ≡ true
    pub none_missing : missing_in t ≡ None

  pub met : Ok tt ≡ checked_of t m space → Met
  unfolding checked_of
  met e = go (counted t) (roomy (bus_count t) m space) (missing_in t) refl refl refl
    where
      go : (a b : Bool) (c : Option MissingBus) → counted t ≡ a → roomy (bus_count t) m space ≡ b → missing_in t ≡ c → Met
      go true true None p q r = record { is_counted = p; is_roomy = q; none_missing = r }
      go true true (Some at) p q r = let k : Ok tt ≡ Err (row_refusal at.table at.row at.field) = rw (p, q, r) at e in no-case cc
      go true false c p q r = let k : Ok tt ≡ Err Room = rw (p, q) at e in no-case cc
      go false b c p q r = let k : Ok tt ≡ Err Counts = rw p at e in no-case cc

  -- and where they are, the tables are ready
  pub met-ready : WellIndexed t → roomy (bus_count t) m space ≡ true → Ok tt ≡ checked_of t m space
  met-ready h hr =
      let none = means-missing t h.branches.to h.triplets.col None
      (((h.slack_bus, h.generator_bus), h.branch_from, h.branch_to), h.triplet_row, h.triplet_col) in
      ap bus_refusal none ∙ check-buses (sized-counted t h.buses h.slacks h.generators h.branches h.triplets) hr

-- ---- the run

pub run-from-parts : (start : AcStart) (t : Network) (w v v₀ : List Float) (found : AcPf) (best : Settled) → searched found best v ≡ ac_pf_of start t w → v₀ ≡ zeros v
    → length v ≡ length w → ran found best v₀ ≡ run_of start t w
unfolding run_of zeros
run-from-parts start t w v v₀ found best e ev same = rw (← e, ev, same)

-- ---- the call

pub ready-answer : (start : AcStart) (t : Network) (o : Outs) (w : List Float) (found : AcPf) (best : Settled) (v : List Float) → ran found best v ≡ run_of start t w
    → (r : Result Solved Refusal) (e : Outs) → written (paper_of r) e ≡ write_of (bus_count t) t.triplets found best.ended.point best.kinds o
    → answer (paper_of r) e v ≡ after_run t o (run_of start t w)
ready-answer start t o w found best v er r e ew = rw (← er, ← ew)

module _ (start : AcStart) (t : Network) (o : Outs) (w : List Float) (c : Result (Unit {0}) Refusal) (h : c ≡ checked_of t (lengths_in o) (length w)) where
  pub solve-refused : (r : Refusal) → c ≡ Err r → answer (refusal_paper r) o w ≡ solve_of start t o w
  unfolding solve_of
  solve-refused r e = rw (← h, e)

  pub solve-ready : c ≡ Ok tt → (a : Answer) → a ≡ after_run t o (run_of start t w) → a ≡ solve_of start t o w
  unfolding solve_of
  solve-ready k a e = rw (← h, k) e

-- ---- the contract fixes everything

-- two outcomes with one answer are equal, lent memory included
pub answer-one : (a : Answer) (r s : Result Solved Refusal) (o₁ o₂ : Outs) (w₁ w₂ : List Float)
    → answer (paper_of r) o₁ w₁ ≡ a → answer (paper_of s) o₂ w₂ ≡ a → (r ≡ s) × (o₁ ≡ o₂) × (w₁ ≡ w₂)
answer-one a r s o₁ o₂ w₁ w₂ h k =
    let e = h ∙ sym k in
    (paper-one r s (ap (λ (b : Answer). b.paper) e), ap (λ (b : Answer). b.columns) e, ap (λ (b : Answer). b.space) e)

-- so two that meet the call's contract are
pub solve-one : (start : AcStart) (t : Network) (o : Outs) (w : List Float) (r s : Result Solved Refusal) (o₁ o₂ : Outs) (w₁ w₂ : List Float)
    → answer (paper_of r) o₁ w₁ ≡ solve_of start t o w → answer (paper_of s) o₂ w₂ ≡ solve_of start t o w → (r ≡ s) × (o₁ ≡ o₂) × (w₁ ≡ w₂)
solve-one start t o w = answer-one (solve_of start t o w)

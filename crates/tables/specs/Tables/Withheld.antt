-- Demand 3, of the public call: tables that differ only in 01's "Withheld columns", solved with the same lent buffers, give the same answer, columns and
-- workspace, refusals included. Assumes nothing.
use Rattle.std.specs.Prelude.{◌≤◌, List, ◌≡◌, leb, Float, Result, Ok, Err, [], ◌∷◌}
use Rattle.std.proofs.Math.Path.{refl, ap}
use Rattle.std.proofs.Common.{◌∙◌}
use Rattle.std.proofs.Math.ListN.{length}
use Rattle.real.specs.Tests.{both}
use Rattle.network.specs.Network.{Network, bus_count}
use Rattle.network.specs.Checks.{same, slacks_counted, branches_counted, triplets_counted, counted}
use Rattle.network.specs.Missing.{missing_by, missing_in}
use Rattle.network.specs.Checks.Laws.{buses-few}
use Rattle.starts.specs.declared.AcStart.{AcStart}
use Rattle.pf_ac.specs.declared.AcPf.TheVariants as AcPf
use Rattle.pf_ac.specs.Search.{Searched}
use Rattle.pf_ac.specs.WithStart.Withheld.{Alike, withheld}
use Rattle.outcome.specs.Outcome.{ok, Outs, lengths_in, with_answer}
use Rattle.tables.specs.Tables.{checked_of, Ran, ran, ran_of, run_of, answer, after_run, after_check, solve_of}
use Rattle.tables.specs.Tables.Laws.{met}
use Rattle.outcome.specs.declared.Refusal.{Refusal}

module _ (start : AcStart) (t u : Network) (a : Alike start t u) (o : Outs) (w : List Float) where
  -- the checks read lengths, and whole columns that agree
  pub counted_same : counted t ≡ counted u
  unfolding counted
  counted_same = λ i.
      let b = a.buses in
      let g = a.generators in
      let n = length (b.kind i) in
      let m = length (g.bus i) in
      both (both (leb n 32) (same n (length (b.vm_set i) ∷ b.pd.size i ∷ b.qd.size i ∷ b.pg.size i ∷ b.qg.size i ∷ b.vm_case.size i ∷ b.va_case.size i ∷ [])))
      (both (slacks_counted (a.slacks i))
      (both (both (leb m 32) (same m (g.qmin.size i ∷ g.qmax.size i ∷ [])))
      (both (branches_counted (a.branches i)) (triplets_counted (a.triplets i)))))

  buses-same : bus_count t ≡ bus_count u
  buses-same = ap length a.buses.kind

  -- and so the same row is told
  pub missing-same : missing_in t ≡ missing_in u
  unfolding missing_in
  missing-same = λ i. missing_by (buses-same i) (a.slacks i).bus (a.generators.bus i) (a.branches i).from (a.branches i).to (a.triplets i).row (a.triplets i).col

  pub checked-same : checked_of t (lengths_in o) (length w) ≡ checked_of u (lengths_in o) (length w)
  unfolding checked_of
  checked-same = rw (counted_same, buses-same, missing-same)

  run-same : bus_count t ≤ 32 → run_of start t w ≡ run_of start u w
  unfolding run_of
  run-same few = ap (λ (s : Searched). ran_of s w) (withheld start t u few a w)

  -- the powers are worked out from triplets that agree
  after_same : (r : Ran) → after_run t o r ≡ after_run u o r
  after_same (ran (AcPf.Solved it res) best v) = λ i. answer (ok it res) (with_answer (buses-same i) (a.triplets i) best.ended.point best.kinds o) v
  after_same (ran (AcPf.NotConverged m k) best v) = refl

  -- what is answered to ready tables
  pub ready-same : bus_count t ≤ 32 → after_run t o (run_of start t w) ≡ after_run u o (run_of start u w)
  ready-same few = after_same (run_of start t w) ∙ ap (after_run u o) (run-same few)

  pub solve-withheld : solve_of start t o w ≡ solve_of start u o w
  unfolding solve_of
  solve-withheld = go (checked_of t (lengths_in o) (length w)) refl ∙ ap (after_check start u o w) checked-same
    where
      go : (c : Result (Unit {0}) Refusal) → c ≡ checked_of t (lengths_in o) (length w) → after_check start t o w c ≡ after_check start u o w c
      go (Ok x) e = ready-same (buses-few t (met t (lengths_in o) (length w) e).is_counted)
      go (Err r) e = refl

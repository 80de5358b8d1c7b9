-- Nothing lent before can show: the answer and the answer columns don't depend on what stood in the workspace, only on how long it is. Assumes nothing.
use Rattle.std.specs.Prelude.{List, ◌≡◌, refl, length, Float, Result, Ok, Err}
use Rattle.std.proofs.Common.{sym, ap, ◌∙◌, arith}
use Rattle.network.specs.Network.{Network}
use Rattle.network.specs.Checks.Laws.{buses-few}
use Rattle.starts.specs.declared.AcStart.{AcStart}
use Rattle.pf_ac.specs.declared.AcPf.TheVariants as AcPf
use Rattle.pf_ac.specs.Search.{Searched, searched}
use Rattle.pf_ac.specs.Search.Space.{AlikeSearched, alike_searched}
use Rattle.pf_ac.specs.WithStart.{ac_pf_of}
use Rattle.pf_ac.specs.WithStart.Space.{ac_pf-space}
use Rattle.outcome.specs.Outcome.{refusal_paper, Outs, lengths_in, zeros}
use Rattle.tables.specs.Tables.{Answer, answer, checked_of, ran_of, run_of, after_run, solve_of}
use Rattle.outcome.specs.Outcome.Laws.{one-per-bus}
use Rattle.tables.specs.Tables.Laws.{met, solve-refused}
use Rattle.outcome.specs.declared.Refusal.{Refusal}

-- where the checks are met, zeros are left in the workspace
pub ready-zeros : (start : AcStart) (t : Network) (o : Outs) (w : List Float) → Ok tt ≡ checked_of t (lengths_in o) (length w)
    → (solve_of start t o w).space ≡ zeros w
unfolding solve_of run_of
ready-zeros start t o w ready = rw (← ready) (go (ac_pf_of start t w))
  where
    go : (x : Searched) → (after_run t o (ran_of x w)).space ≡ zeros w
    go (searched (AcPf.Solved it res) best u) = refl
    go (searched (AcPf.NotConverged m k) best u) = refl

module _ (start : AcStart) (t : Network) (o : Outs) (w v : List Float) (size : length w ≡ length v) where
  -- there the run is the same
  pub run-space : Ok tt ≡ checked_of t (lengths_in o) (length w) → run_of start t w ≡ run_of start t v
  unfolding run_of zeros
  run-space ready =
      let m = met t (lengths_in o) (length w) ready in
      let r = (one-per-bus _ (lengths_in o) (length w) m.is_roomy).1 in
      go (ac_pf-space start t (buses-few t m.is_counted) (record { room = omega arith; size = size }))
    where
      go : {x y : Searched} → AlikeSearched x y → ran_of x w ≡ ran_of y v
      go (alike_searched l) = rw size

  -- so the whole answer is the same, the workspace included
  pub ready-space : Ok tt ≡ checked_of t (lengths_in o) (length w) → solve_of start t o w ≡ solve_of start t o v
  unfolding solve_of
  ready-space ready = rw (← size, ← ready, run-space ready)

  -- and a refusal of the checks reads only how long the workspace is
  same-but : {B : Type 0} (f : Answer → B) → ((r : Refusal) → f (answer (refusal_paper r) o w) ≡ f (answer (refusal_paper r) o v)) → f (solve_of start t o w) ≡ f (solve_of start t o v)
  same-but f h = go (checked_of t (lengths_in o) (length w)) refl
    where
      go : (c : Result (Unit {0}) Refusal) → c ≡ checked_of t (lengths_in o) (length w) → f (solve_of start t o w) ≡ f (solve_of start t o v)
      go (Ok x) e = ap f (ready-space e)
      go (Err r) e =
          ap f (sym (solve-refused start t o w (Err r) e r refl)) ∙ h r ∙ ap f (solve-refused start t o v (Err r) (rw size at e) r refl)

  -- of all tables, taken or refused
  pub answer-space : (solve_of start t o w).paper ≡ (solve_of start t o v).paper
  answer-space = same-but (λ a. a.paper) (λ r. refl)

  pub columns-space : (solve_of start t o w).columns ≡ (solve_of start t o v).columns
  columns-space = same-but (λ a. a.columns) (λ r. refl)

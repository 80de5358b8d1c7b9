-- Each recursion of Newton's steps, one turn as an equation for each way that it goes, at a fuel that is a variable; and what a run depends on.
-- Assumes nothing.
use Prim.Native.Nat.{ℕ, zero, suc, ◌+◌, ◌-◌, ◌<◌, ◌≤◌}
use Rattle.std.specs.Prelude.{Bool, true, false, cond, List, ◌≡◌, ◌++◌, take, drop, set, length, get_or, Float, Option, None, Some, Ok, Err}
use Rattle.std.specs.Option.{option_or, is_some}
use Rattle.std.proofs.Math.Path.{refl, ap}
use Rattle.std.proofs.lemmas.List.{set-append_right, length-take-le, take-append-drop}
use Rattle.real.specs.Tests.{no-case}
use Rattle.layout.specs.Table.{stores}
use Rattle.layout.specs.Table.Laws.{stored-taken}
use Rattle.std.proofs.Common.{length-drop, sym, ◌∙◌, arith}
use Rattle.std.specs.Float.Ieee.{nan, binary64, mul, lt}
use Rattle.real.specs.Literals.{one, half, tolerance}
use Rattle.layout.specs.declared.AcPfLayout.{AcPfLayout}
use Rattle.linsolve.specs.declared.Singular as Linsolve
use Rattle.linsolve.specs.Linear.{Answer, solved, Outcome, outcome, answer_of, space_of, cleared, with_sides, solution}
use Rattle.injections.specs.declared.Injections.{Injections}
use Rattle.network.specs.Network.{Triplets}
use Rattle.injections.specs.Injections.{injections_of}
use Rattle.injections.specs.Jacobian.{jacobian_of}
use Rattle.layout.specs.Residual.{powers, residual_of}
use Rattle.real.specs.Norm.{norm_of}
use Rattle.layout.specs.declared.Point.{Point}
use Rattle.newton.specs.declared.Measured.{Measured}
use Rattle.newton.specs.declared.Trial.{Trial}
use Rattle.newton.specs.declared.Ending.{Ending}
use Rattle.newton.specs.declared.Ending.TheVariants.{Converged, Singular, Stuck}
use Rattle.newton.specs.Step.{step_of, unfit_to}
use Rattle.newton.specs.Newton.{Problem, measured_of, sides_to, direction_of, taken_trial, attempt_of, tries_from, Run, ended_of, ended, last_ending, by_solution, by_trial, run, steps_from, newton_of}

-- k of m turns are done: one more is left than after the next
pub fuel : (m k : ℕ) → k < m → m - k ≡ suc (m - (k + 1))
fuel m k h = omega arith

-- ---- a point measured, and the direction

pub measured-is : (g : Problem) (p : Point) (found : Injections) → found ≡ injections_of g.layout.n g.y p.vm p.va
    → (r : List Float) → r ≡ residual_of g.layout (powers g.pd g.qd g.pg g.qg found.power.p found.power.q)
    → (x : Float) → x ≡ norm_of g.layout.dim r → record { phasors = found.phasors; r = r; residual = x } ≡ measured_of g p
unfolding measured_of
measured-is g p found ef r er x ex = rw (ex, er, ef)

pub direction-is : (y : Triplets) (l : AcPfLayout) (va : List Float) (m : Measured) (w w₁ w₂ w₃ : List Float) (o : Outcome) → w₁ ≡ cleared l.dim w
    → w₂ ≡ jacobian_of y va m.phasors l w₁ → w₃ ≡ sides_to l.dim m.r w₂ → o ≡ solution l.dim w₃ → o ≡ direction_of y l va m w
unfolding direction_of
direction-is y l va m w w₁ w₂ w₃ o e₁ e₂ e₃ eo = rw (eo, e₃, e₂, e₁)

-- the right sides copied into their places

sides-split : (n : ℕ) (f : ℕ → Float) (a b : List Float) → length a ≡ 4096 → with_sides n f (a ++ b) ≡ a ++ stores f n b
unfolding with_sides stores
sides-split zero f a b e = refl
sides-split (suc k) f a b e =
    rw (sides-split k f a b e) (set-append_right a (stores f k b) 4096 (4096 + k) (f k) e (omega arith) ∙ ap (λ (i : ℕ). a ++ set (stores f k b) i (f k)) (omega arith))

pub sides-loaded : (n : ℕ) (r w : List Float) → n ≤ 64 → n ≤ length r → 4160 ≤ length w → take 4096 w ++ (take n r ++ drop n (drop 4096 w)) ≡ sides_to n r w
sides-loaded n r w h long room =
    rw (stored-taken n r (drop 4096 w) nan long (rw length-drop (omega arith)))
    (sym (sides-split n _ (take 4096 w) (drop 4096 w) (length-take-le 4096 w (omega arith))) ∙ ap (with_sides n (λ k. get_or r k nan)) (take-append-drop 4096 w))

-- ---- one length

module _ (at : Point → Measured) (l : AcPfLayout) (p : Point) (m : Measured) (w : List Float) (alpha : Float) (t : Point) (et : t ≡ step_of l p w alpha) where
  pub attempt-unfit : unfit_to l.n t ≡ true → None ≡ attempt_of at l p m w alpha
  unfolding attempt_of
  attempt-unfit h = rw (← et, h)

  module _ (h : unfit_to l.n t ≡ false) (tm : Measured) (em : tm ≡ at t) where
    pub attempt-worse : lt tm.residual m.residual ≡ false → None ≡ attempt_of at l p m w alpha
    unfolding attempt_of
    attempt-worse hr = rw (← et, h, ← em, hr)

    pub attempt-hit : lt tm.residual m.residual ≡ true → Some (taken_trial t tm) ≡ attempt_of at l p m w alpha
    unfolding attempt_of
    attempt-hit hr = rw (← et, h, ← em, hr)

-- ---- the lengths

or-hit : {A : Type 0} (a b : Option A) → is_some a ≡ true → option_or a b ≡ a
or-hit None b h = no-case cc
or-hit (Some x) b h = refl

or-miss : {A : Type 0} (a b : Option A) → is_some a ≡ false → option_or a b ≡ b
or-miss None b h = refl
or-miss (Some x) b h = no-case cc

module _ (k : ℕ) (at : Point → Measured) (l : AcPfLayout) (p : Point) (m : Measured) (w : List Float) (alpha : Float) (a : Option Trial) (e : a ≡ attempt_of at l p m w alpha) where
  pub tries-hit : is_some a ≡ true → tries_from (suc k) at l p m w alpha ≡ a
  unfolding tries_from
  tries-hit h = rw (← e) (or-hit a _ h)

  pub tries-miss : is_some a ≡ false → tries_from (suc k) at l p m w alpha ≡ tries_from k at l p m w (mul binary64 alpha half)
  unfolding tries_from
  tries-miss h = rw (← e) (or-miss a _ h)

pub tries-none : (at : Point → Measured) (l : AcPfLayout) (p : Point) (m : Measured) (w : List Float) (alpha : Float) → None ≡ tries_from 0 at l p m w alpha
unfolding tries_from
tries-none at l p m w alpha = refl

-- ---- the steps

module _ (it : ℕ) (at : Point → Measured) (y : Triplets) (l : AcPfLayout) (p : Point) (m : Measured) (w : List Float) where
  pub steps-none : (how : Ending) → how ≡ last_ending m.residual → run (ended p 49 m how) w ≡ steps_from 0 it at y l p m w
  unfolding steps_from
  steps-none how e = rw e

  module _ (k : ℕ) where
    pub steps-done : lt m.residual tolerance ≡ true → steps_from (suc k) it at y l p m w ≡ run (ended p it m Converged) w
    unfolding steps_from
    steps-done h = rw h

    module _ (h : lt m.residual tolerance ≡ false) where
      pub steps-singular : (s : Linsolve.Singular) (v : List Float) → outcome (Err s) v ≡ direction_of y l p.va m w
          → steps_from (suc k) it at y l p m w ≡ run (ended p it m (Singular s.column)) v
      unfolding steps_from
      steps-singular s v e = rw (h, ← e)

      module _ (v : List Float) (e : outcome solved v ≡ direction_of y l p.va m w) where
        pub steps-stuck : None ≡ tries_from 12 at l p m v one → steps_from (suc k) it at y l p m w ≡ run (ended p it m Stuck) v
        unfolding steps_from
        steps-stuck et = rw (h, ← e, ← et)

        pub steps_on : (t : Trial) → Some t ≡ tries_from 12 at l p m v one → steps_from (suc k) it at y l p m w ≡ steps_from k (it + 1) at y l t.point t.at v
        unfolding steps_from
        steps_on t et = rw (h, ← e, ← et)

pub newton-begins : (g : Problem) (p : Point) (w : List Float) → steps_from 50 0 (measured_of g) g.y g.layout p (measured_of g p) w ≡ newton_of g p w
unfolding newton_of
newton-begins g p w = refl

-- ---- demand 3 at this level: a run depends on demands and schedules only through what is measured

pub newton-same : (g h : Problem) → g.y ≡ h.y → g.layout ≡ h.layout → ((p : Point) → measured_of g p ≡ measured_of h p) → (p : Point) (w : List Float)
    → newton_of g p w ≡ newton_of h p w
newton-same g h ey el em p w = sym (newton-begins g p w) ∙ (λ i. steps_from 50 0 (λ q. em q i) (ey i) (el i) p (em p i) w) ∙ newton-begins h p w

-- ---- what is carried with a point is what is measured there, so the phasors of an end are those at its point

module _ (at : Point → Measured) (y : Triplets) (l : AcPfLayout) where
  abbrev Fits : Option Trial → Type 0
  Fits None = Unit
  Fits (Some t) = t.at ≡ at t.point

  either : (b : Bool) (s t : Option Trial) → Fits s → Fits t → Fits (cond b s t)
  either true s t hs ht = hs
  either false s t hs ht = ht

  attempt-fit : (p : Point) (m : Measured) (w : List Float) (alpha : Float) → Fits (attempt_of at l p m w alpha)
  unfolding attempt_of
  attempt-fit p m w alpha =
      let s = step_of l p w alpha in
      let lower = lt (at s).residual m.residual in
      either (unfit_to l.n s) None (cond lower (Some (taken_trial s (at s))) None) tt (either lower (Some (taken_trial s (at s))) None refl tt)

  or-fit : (a b : Option Trial) → Fits a → Fits b → Fits (option_or a b)
  or-fit (Some t) b ha hb = ha
  or-fit None b ha hb = hb

  tries-fit : (k : ℕ) (p : Point) (m : Measured) (w : List Float) (alpha : Float) → Fits (tries_from k at l p m w alpha)
  unfolding tries_from
  tries-fit zero p m w alpha = tt
  tries-fit (suc k) p m w alpha =
      or-fit (attempt_of at l p m w alpha) (tries_from k at l p m w (mul binary64 alpha half)) (attempt-fit p m w alpha) (tries-fit k p m w (mul binary64 alpha half))

  abbrev AtPoint : Run → Type 0
  AtPoint r = (ended_of r).phasors ≡ (at (ended_of r).point).phasors

  one_of : (b : Bool) (r s : Run) → AtPoint r → AtPoint s → AtPoint (cond b r s)
  one_of true r s hr hs = hr
  one_of false r s hr hs = hs

  by_solution_lem : (a : Answer) (f : ℕ → Run) (r : Run) → ((c : ℕ) → AtPoint (f c)) → AtPoint r → AtPoint (by_solution a f r)
  by_solution_lem (Ok x) f r hf hr = hr
  by_solution_lem (Err s) f r hf hr = hf s.column

  by_trial_lem : (t : Option Trial) (f : Trial → Run) (r : Run) → Fits t → ((t : Trial) → t.at ≡ at t.point → AtPoint (f t)) → AtPoint r → AtPoint (by_trial t f r)
  by_trial_lem (Some t) f r h hf hr = hf t h
  by_trial_lem None f r h hf hr = hr

  steps-at : (k it : ℕ) (p : Point) (m : Measured) → m ≡ at p → (w : List Float) → AtPoint (steps_from k it at y l p m w)
  unfolding steps_from
  steps-at zero it p m h w = ap (λ (x : Measured). x.phasors) h
  steps-at (suc k) it p m h w =
      let here = ap (λ (x : Measured). x.phasors) h in
      let o = direction_of y l p.va m w in
      let t = tries_from 12 at l p m (space_of o) one in
      let rest : Trial → Run = λ t. steps_from k (it + 1) at y l t.point t.at (space_of o) in
      let stuck = run (ended p it m Stuck) (space_of o) in
      let singular : ℕ → Run = λ c. run (ended p it m (Singular c)) (space_of o) in
      one_of (lt m.residual tolerance) (run (ended p it m Converged) w) (by_solution (answer_of o) singular (by_trial t rest stuck)) here
      (by_solution_lem (answer_of o) singular (by_trial t rest stuck) (λ c. here)
      (by_trial_lem t rest stuck (tries-fit 12 p m (space_of o) one) (λ t e. steps-at k (it + 1) t.point t.at e (space_of o)) here))

-- Newton's end has the phasors of its point
pub end-at : (g : Problem) (p : Point) (w : List Float) → let e = ended_of (newton_of g p w) in e.phasors ≡ (measured_of g e.point).phasors
unfolding newton_of
end-at g p w = steps-at (measured_of g) g.y g.layout 50 0 p (measured_of g p) refl w

-- 01, "Newton": at most 50 steps; each tries 12 lengths from 1, halving. A trial is taken only if its norm is strictly lower. Iterations equal
-- accepted steps, except that 50 reads 49. The workspace goes through all of it, so that its places are known at the end too.
pub mod Laws
pub mod Space
use Rattle.std.specs.Prelude.{ℕ, zero, suc, ◌+◌, ◌≤◌, cond, List, length, get_or, Float, Option, None, Some, Ok, Err}
use Rattle.std.specs.Option.{option_or}
use Rattle.std.specs.Float.{nan, binary64}
use Rattle.std.specs.Float.Ieee.{mul, lt}
use Rattle.real.specs.Literals.{one, half, tolerance}
use Rattle.real.specs.Norm.{norm_of}
use Rattle.layout.specs.declared.AcPfLayout.{AcPfLayout}
use Rattle.layout.specs.Residual.{powers, residual_of}
use Rattle.linsolve.specs.Linear.{Answer, Outcome, answer_of, space_of, cleared, with_sides, solution}
use Rattle.network.specs.Network.{Triplets}
use Rattle.network.specs.Columns.{triplets_in}
use Rattle.injections.specs.Injections.{GoodTriplets, injections_of}
use Rattle.injections.specs.Jacobian.{jacobian_of}
use Rattle.layout.specs.declared.Point.{Point}
use Rattle.newton.specs.declared.NewtonProblem.{NewtonProblem}
use Rattle.newton.specs.declared.Measured.{Measured}
use Rattle.newton.specs.declared.Trial.{Trial}
use Rattle.newton.specs.declared.Ending.{Ending}
use Rattle.newton.specs.declared.Ending.TheVariants.{Converged, Singular, Stuck, Spent}
use Rattle.newton.specs.declared.Ended.{Ended}
use Rattle.newton.specs.Step.{step_of, unfit_to}

-- what stays the same through a run: the triplets, the layout, demands and scheduled generation
pub record Problem : Type 0 where
  pub y : Triplets
  pub layout : AcPfLayout
  pub pd : List Float
  pub qd : List Float
  pub pg : List Float
  pub qg : List Float

abbrev pub problem : Triplets → AcPfLayout → List Float → List Float → List Float → List Float → Problem
problem y layout pd qd pg qg = record { y = y; layout = layout; pd = pd; qd = qd; pg = pg; qg = qg }

-- the same of the program's columns
abbrev pub problem_in : NewtonProblem → Problem
problem_in g = problem (triplets_in g.y) g.layout g.pd.now g.qd.now g.pg.now g.qg

-- what the callers have checked
pub record GoodProblem (g : Problem) : Type 0 where
  pub good : GoodTriplets g.layout.n g.y
  pub small : g.layout.dim ≤ 64
  pub demands : g.layout.n ≤ length g.pd
  pub reactive : g.layout.n ≤ length g.qd
  pub dispatch : g.layout.n ≤ length g.pg

-- the point's voltages and currents, its mismatch, and the norm
unfoldable pub measured_of : Problem → Point → Measured
measured_of g p =
    let found = injections_of g.layout.n g.y p.vm p.va in
    let r = residual_of g.layout (powers g.pd g.qd g.pg g.qg found.power.p found.power.q) in
    record { phasors = found.phasors; r = r; residual = norm_of g.layout.dim r }

-- ---- the direction

-- the mismatch as the right side
abbrev pub sides_to : ℕ → List Float → List Float → List Float
sides_to n r w = with_sides n (λ k. get_or r k nan) w

-- the Jacobian's entries added to a zero matrix, and the linear solve
unfoldable pub direction_of : Triplets → AcPfLayout → List Float → Measured → List Float → Outcome
direction_of y l va m w = solution l.dim (sides_to l.dim m.r (jacobian_of y va m.phasors l (cleared l.dim w)))

-- ---- the length. `at` measures a point

abbrev pub taken_trial : Point → Measured → Trial
taken_trial p m = record { point = p; at = m }

-- one length: taken only if the trial is fit and its norm strictly lower
unfoldable pub attempt_of : (Point → Measured) → AcPfLayout → Point → Measured → List Float → Float → Option Trial
attempt_of at l p m w alpha =
    let t = step_of l p w alpha in
    let tm = at t in
    cond (unfit_to l.n t) None (cond (lt tm.residual m.residual) (Some (taken_trial t tm)) None)

-- the first of the next k lengths that is taken, if one is
unfoldable pub tries_from : ℕ → (Point → Measured) → AcPfLayout → Point → Measured → List Float → Float → Option Trial
tries_from zero at l p m w alpha = None
tries_from (suc k) at l p m w alpha = option_or (attempt_of at l p m w alpha) (tries_from k at l p m w (mul binary64 alpha half))

-- ---- the steps

-- what the steps give, and the workspace that they leave
pub data Run : Type 0 where
  run : Ended → List Float → Run

abbrev pub ended_of : Run → Ended
ended_of (run e w) = e

abbrev pub space_after : Run → List Float
space_after (run e w) = w

abbrev pub ended : Point → ℕ → Measured → Ending → Ended
ended p it m how = record { point = p; phasors = m.phasors; iterations = it; residual = m.residual; ending = how }

-- below tolerance after the fiftieth step counts as below tolerance
abbrev pub last_ending : Float → Ending
last_ending res = cond (lt res tolerance) Converged Spent

abbrev pub by_solution : Answer → (ℕ → Run) → Run → Run
by_solution (Ok x) f r = r
by_solution (Err s) f r = f s.column

-- f of the trial that is taken, r where none is
abbrev pub by_trial : Option Trial → (Trial → Run) → Run → Run
by_trial (Some t) f r = f t
by_trial None f r = r

-- the next k steps, of which `it` are done
unfoldable pub steps_from : ℕ → ℕ → (Point → Measured) → Triplets → AcPfLayout → Point → Measured → List Float → Run
steps_from zero it at y l p m w = run (ended p 49 m (last_ending m.residual)) w
steps_from (suc k) it at y l p m w =
    let o = direction_of y l p.va m w in
    cond (lt m.residual tolerance) (run (ended p it m Converged) w)
    (by_solution (answer_of o) (λ c. run (ended p it m (Singular c)) (space_of o))
    (by_trial (tries_from 12 at l p m (space_of o) one) (λ t. steps_from k (it + 1) at y l t.point t.at (space_of o)) (run (ended p it m Stuck) (space_of o))))

unfoldable pub newton_of : Problem → Point → List Float → Run
newton_of g p w = steps_from 50 0 (measured_of g) g.y g.layout p (measured_of g p) w

-- What stood in a lent workspace cannot show: Newton's steps clear it before they read it. Assumes nothing.
use Prim.Native.Nat.{ℕ, zero, suc, ◌+◌, ◌≤◌, ◌<◌}
use Rattle.std.specs.Prelude.{Bool, List, ◌≡◌, get_or, Float, Option, None, Some, Ok, Err}
use Rattle.std.proofs.Math.Bool.{true, false, cond}
use Rattle.std.proofs.Math.Path.{refl}
use Rattle.std.proofs.Common.{ltb-true}
use Rattle.std.proofs.Math.Dec.{ltb}
use Rattle.std.specs.Float.{nan}
use Rattle.std.specs.Float.Ieee.{binary64, add, mul, lt}
use Rattle.real.specs.Literals.{one, half, tolerance}
use Rattle.layout.specs.declared.BusKind.{BusKind}
use Rattle.layout.specs.declared.Unknown.TheVariants.{Angle, Magnitude}
use Rattle.layout.specs.declared.AcPfLayout.{AcPfLayout}
use Rattle.layout.specs.declared.Point.{Point}
use Rattle.layout.specs.Table.Laws.{stores-ext}
use Rattle.layout.specs.Layout.{none, layout_of, va_col, vm_col}
use Rattle.layout.specs.Layout.Laws.{dim-most, column-inside}
use Rattle.linsolve.specs.Linear.{Outcome, answer_of, space_of}
use Rattle.linsolve.specs.Linear.Space as Linear
use Rattle.linsolve.specs.Linear.Space.{Alike, AlikeOutcomes, alike_outcomes, cleared-alike, sides-alike, solution-space}
use Rattle.network.specs.Network.{Triplets}
use Rattle.injections.specs.Jacobian.Space.{jacobian-space}
use Rattle.newton.specs.declared.Measured.{Measured}
use Rattle.newton.specs.declared.Trial.{Trial}
use Rattle.newton.specs.declared.Ended.{Ended}
use Rattle.newton.specs.declared.Ending.TheVariants.{Singular, Stuck}
use Rattle.newton.specs.Step.{moved_by, step_of}
use Rattle.newton.specs.Newton.{Problem, measured_of, direction_of, attempt_of, tries_from, Run, run, ended, by_solution, by_trial, steps_from, newton_of}

-- what holds of two pairs holds of the pair that a test picks
pub either : {A : Type 0} (P : A → A → Type 0) (b : Bool) {x y z u : A} → P x y → P z u → P (cond b x z) (cond b y u)
either P true h k = h
either P false h k = k

-- two workspaces of one length, with room for a matrix and its right sides
abbrev pub Lent : List Float → List Float → Type 0
Lent = Linear.Lent

-- one end, and workspaces of one length
pub data AlikeRuns : Run → Run → Type 0 where
  alike_runs : {e : Ended} {w v : List Float} → Lent w v → AlikeRuns (run e w) (run e v)

-- a column that there is, is one of the matrix
abbrev Column : AcPfLayout → ℕ → Type 0
Column l c = c < none → c < l.dim

-- the matrix fits, and the buses' columns are its own
pub record Inside (l : AcPfLayout) : Type 0 where
  pub small : l.dim ≤ 64
  pub angle : (b : ℕ) → b < l.n → Column l (va_col l b)
  pub magnitude : (b : ℕ) → b < l.n → Column l (vm_col l b)

-- so it is of every layout of kinds
pub layout-inside : (n : ℕ) (kinds : List BusKind) → n ≤ 32 → Inside (layout_of n kinds)
unfolding layout_of
layout-inside n kinds few = record { small = dim-most n kinds few; angle = column-inside n kinds few Angle; magnitude = column-inside n kinds few Magnitude }

module _ (l : AcPfLayout) (i : Inside l) where
  -- ---- the direction

  direction-space : (y : Triplets) (va : List Float) (m : Measured) {w v : List Float} → Lent w v → AlikeOutcomes l.dim (direction_of y l va m w) (direction_of y l va m v)
  unfolding direction_of
  direction-space y va m a = solution-space (sides-alike (jacobian-space y va m.phasors l (cleared-alike l.dim _ _ i.small a)) l.dim _ _ (λ r h. refl))

  -- ---- the length, of which only the right sides are read

  module _ {w v : List Float} (a : Alike l.dim w v) where
    moved-alike : (x : Float) (c : ℕ) (alpha : Float) → Column l c → moved_by x c alpha w ≡ moved_by x c alpha v
    unfolding moved_by
    moved-alike x c alpha h = go (ltb c none) refl
      where
        go : (t : Bool) → ltb c none ≡ t
            → cond t (add binary64 x (mul binary64 alpha (get_or w (4096 + c) nan))) x ≡ cond t (add binary64 x (mul binary64 alpha (get_or v (4096 + c) nan))) x
        go true e = rw (a.side c (h (ltb-true c none e)))
        go false e = refl

    step-alike : (p : Point) (alpha : Float) → step_of l p w alpha ≡ step_of l p v alpha
    unfolding step_of
    step-alike p alpha = λ j.
        record {
          vm = stores-ext _ _ l.n p.vm (λ b h. moved-alike (get_or p.vm b nan) (vm_col l b) alpha (i.magnitude b h)) j;
          va = stores-ext _ _ l.n p.va (λ b h. moved-alike (get_or p.va b nan) (va_col l b) alpha (i.angle b h)) j;
        }

    tries-alike : (k : ℕ) (at : Point → Measured) (p : Point) (m : Measured) (alpha : Float) → tries_from k at l p m w alpha ≡ tries_from k at l p m v alpha
    unfolding tries_from attempt_of
    tries-alike zero at p m alpha = refl
    tries-alike (suc k) at p m alpha = rw (step-alike p alpha, tries-alike k at p m (mul binary64 alpha half))

  -- ---- the steps

  steps-space : (k it : ℕ) (at : Point → Measured) (y : Triplets) (p : Point) (m : Measured) {w v : List Float} → Lent w v
      → AlikeRuns (steps_from k it at y l p m w) (steps_from k it at y l p m v)
  unfolding steps_from
  steps-space zero it at y p m a = alike_runs a
  steps-space (suc k) it at y p m a =
      either AlikeRuns (lt m.residual tolerance) (alike_runs a) (go (direction-space y p.va m a) (λ t x z b. steps-space k (it + 1) at y t.point t.at b))
    where
      goes : Outcome → Run
      goes o =
          by_solution (answer_of o) (λ c. run (ended p it m (Singular c)) (space_of o))
          (by_trial (tries_from 12 at l p m (space_of o) one) (λ t. steps_from k (it + 1) at y l t.point t.at (space_of o)) (run (ended p it m Stuck) (space_of o)))

      go : {o q : Outcome} → AlikeOutcomes l.dim o q
          → ((t : Trial) (x z : List Float) → Lent x z → AlikeRuns (steps_from k (it + 1) at y l t.point t.at x) (steps_from k (it + 1) at y l t.point t.at z))
          → AlikeRuns (goes o) (goes q)
      go (alike_outcomes {s = Err e} b) rest = alike_runs b.lent
      go (alike_outcomes {s = Ok u} {w = x} {v = z} b) rest =
          rw (tries-alike b 12 at p m one) (ends (tries_from 12 at l p m z one))
        where
          ends : (t : Option Trial)
              → AlikeRuns (by_trial t (λ t. steps_from k (it + 1) at y l t.point t.at x) (run (ended p it m Stuck) x)) (by_trial t (λ t. steps_from k (it + 1) at y l t.point t.at z) (run (ended p it m Stuck) z))
          ends (Some t) = rest t x z b.lent
          ends None = alike_runs b.lent

-- Newton's end does not depend on what stood in the workspace
pub newton-space : (g : Problem) → Inside g.layout → (p : Point) {w v : List Float} → Lent w v → AlikeRuns (newton_of g p w) (newton_of g p v)
unfolding newton_of
newton-space g i p a = steps-space g.layout i 50 0 (measured_of g) g.y p (measured_of g p) a

-- The Jacobian triplet by triplet, and what it leaves alone: the workspace's length, and every place that is no entry of the matrix. Assumes nothing.
use Rattle.std.specs.Prelude.{ℕ, zero, suc, ◌+◌, ◌*◌, ◌≤◌, ◌<◌, ◌≡◌, Bool, List, ltb, length, replicate, Float}
use Rattle.std.proofs.Math.Path.{refl}
use Rattle.std.proofs.Common.{◌∙◌, arith, length-set, get_or-set_other}
use Rattle.std.proofs.Math.Bool.{true, false, cond}
use borrow.Author.Tests.{eq-eqb, ne_eqb, lt-ltb, le-ltb, ltb-true}
use Rattle.std.proofs.lemmas.List.{get_or-replicate}
use Rattle.std.specs.Float.{nan}
use Rattle.real.specs.Literals.{one}
use Rattle.complex.specs.declared.Complex.{Complex}
use Rattle.layout.specs.declared.AcPfLayout.{AcPfLayout}
use Rattle.layout.specs.Layout.{none}
use Rattle.linsolve.specs.Linear as Linear
use Rattle.linsolve.specs.Linear.{added}
use Rattle.injections.specs.declared.Phasors.{Phasors}
use Rattle.injections.specs.declared.Derivatives.{Derivatives}
use Rattle.network.specs.Network.{Triplets}
use Rattle.injections.specs.Injections.{row_of, col_of, at, voltages_of}
use Rattle.injections.specs.Injections.Laws.{voltages-at}
use Rattle.injections.specs.Jacobian.{unit_at, on_diagonal, off_diagonal, derivatives_of, entered, entered_row, entered_all, derivatives_at, Places, places_of, jacobian_to, jacobian_of}

-- ---- the ways

module _ (a b : ℕ) (y v c vk u : Complex) where
  pub derivatives-on : a ≡ b → derivatives_of a b y v c vk u ≡ on_diagonal y v c u
  unfolding derivatives_of
  derivatives-on e = rw (eq-eqb a b e)

  pub derivatives-off : (a ≡ b → ⊥) → derivatives_of a b y v c vk u ≡ off_diagonal y v vk u
  unfolding derivatives_of
  derivatives-off e = rw (ne_eqb a b e)

module _ (row col : ℕ) (x : Float) (w : List Float) where
  pub entered-added : row < none → col < none → entered row col x w ≡ added row col x w
  unfolding entered
  entered-added p q = rw (lt-ltb row none p, lt-ltb col none q)

  pub entered-no-row : none ≤ row → entered row col x w ≡ w
  unfolding entered
  entered-no-row p = rw (le-ltb row none p)

  pub entered-no-col : none ≤ col → entered row col x w ≡ w
  unfolding entered
  entered-no-col p = go (ltb row none)
    where
      go : (t : Bool) → cond t (cond (ltb col none) (added row col x w) w) w ≡ w
      go true = rw (le-ltb col none p)
      go false = refl

pub entered_all_lem : (p q va vm : ℕ) (d : Derivatives) (w : List Float)
    → entered_all p q va vm d w ≡ entered_row q va vm d.dva.im d.dvm.im (entered_row p va vm d.dva.re d.dvm.re w)
unfolding entered_all
entered_all_lem p q va vm d w = refl

-- the voltages of magnitudes one
pub unit-at : (n : ℕ) (va : List Float) (b : ℕ) → b < n → n ≤ 32 → at (voltages_of n (replicate 32 one) va) b ≡ unit_at va b
unit-at n va b p few = voltages-at n (replicate 32 one) va b p few ∙ rw (get_or-replicate 32 b one nan (omega arith))

-- ---- turn and end

module _ (y : Triplets) (va : List Float) (s : Phasors) (l : Places) (w : List Float) where
  pub jacobian-end : jacobian_to 0 y va s l w ≡ w
  unfolding jacobian_to
  jacobian-end = refl

  pub jacobian-turn : (k : ℕ)
      → jacobian_to (suc k) y va s l w
      ≡ entered_all (l.p_row (row_of y k)) (l.q_row (row_of y k)) (l.va_col (col_of y k)) (l.vm_col (col_of y k)) (derivatives_at y va s k) (jacobian_to k y va s l w)
  unfolding jacobian_to
  jacobian-turn k = refl

-- ---- what is left alone

-- of one length, and alike from place 4,096 on: the right sides and everything after
pub record Beyond (w v : List Float) : Type 0 where
  pub size : length v ≡ length w
  pub rest : (i : ℕ) → 4096 ≤ i → Linear.at v i ≡ Linear.at w i

beyond-all : (w : List Float) → Beyond w w
beyond-all w = record { size = refl; rest = λ i h. refl }

beyond-on : {w v u : List Float} → Beyond w v → Beyond v u → Beyond w u
beyond-on a b = record { size = b.size ∙ a.size; rest = λ i h. b.rest i h ∙ a.rest i h }

beyond-entry : (row col : ℕ) (x : Float) (w : List Float) → row < none → col < none → Beyond w (added row col x w)
beyond-entry row col x w p q = record { size = simp length-set; rest = λ i h. get_or-set_other w (row * 64 + col) i _ nan (omega arith) }

pub entered-beyond : (row col : ℕ) (x : Float) (w : List Float) → Beyond w (entered row col x w)
unfolding entered
entered-beyond row col x w = go (ltb row none) refl (ltb col none) refl
  where
    go : (s : Bool) → ltb row none ≡ s → (t : Bool) → ltb col none ≡ t → Beyond w (cond s (cond t (added row col x w) w) w)
    go true p true q = beyond-entry row col x w (ltb-true row none p) (ltb-true col none q)
    go true p false q = beyond-all w
    go false p t q = beyond-all w

pub entered-all-beyond : (p q va vm : ℕ) (d : Derivatives) (w : List Float) → Beyond w (entered_all p q va vm d w)
entered-all-beyond p q va vm d w =
    rw (entered_all_lem p q va vm d w)
    (beyond-on (entered-beyond p va _ w) (beyond-on (entered-beyond p vm _ _) (beyond-on (entered-beyond q va _ _) (entered-beyond q vm _ _))))

module _ (y : Triplets) (va : List Float) (s : Phasors) (l : AcPfLayout) (w : List Float) where
  jacobian-beyond : (k : ℕ) → Beyond w (jacobian_to k y va s (places_of l) w)
  jacobian-beyond zero = rw (jacobian-end y va s (places_of l) w) (beyond-all w)
  jacobian-beyond (suc k) = rw (jacobian-turn y va s (places_of l) w k) (beyond-on (jacobian-beyond k) (entered-all-beyond _ _ _ _ _ _))

  pub jacobian-length : length (jacobian_of y va s l w) ≡ length w
  jacobian-length = (jacobian-beyond (length y.row)).size

  pub jacobian-untouched : (i : ℕ) → 4096 ≤ i → Linear.at (jacobian_of y va s l w) i ≡ Linear.at w i
  jacobian-untouched i h = (jacobian-beyond (length y.row)).rest i h

-- 01, "Kinds" and "Norm", as the Rust's residual: scheduled less computed, (pg - pd) - p and (qg - qd) - q, at the rows that exist. 64 places, the rest +0.0.
pub mod Laws
use Rattle.std.specs.Prelude.{ℕ, zero, suc, cond, List, ltb, get_or, set, replicate, Float}
use Rattle.std.specs.Float.{nan, binary64}
use Rattle.std.specs.Float.Ieee.{sub}
use Rattle.real.specs.Literals.{nought}
use Rattle.layout.specs.declared.AcPfLayout.{AcPfLayout}
use Rattle.layout.specs.declared.PowerColumns.{PowerColumns}
use Rattle.layout.specs.Layout.{none, p_row, q_row}

-- what the residual is made of: demands, generation, and what the voltages give
pub record Powers : Type 0 where
  pub pd : List Float
  pub qd : List Float
  pub pg : List Float
  pub qg : List Float
  pub p : List Float
  pub q : List Float

abbrev pub powers : List Float → List Float → List Float → List Float → List Float → List Float → Powers
powers pd qd pg qg p q = record { pd = pd; qd = qd; pg = pg; qg = qg; p = p; q = q }

-- the same of the program's columns
abbrev pub powers_in : PowerColumns → Powers
powers_in w = powers w.pd.now w.qd.now w.pg.now w.qg w.p w.q

-- (g - d) - calc
abbrev pub missing : Float → Float → Float → Float
missing g d calc = sub binary64 (sub binary64 g d) calc

abbrev pub missing_p : Powers → ℕ → Float
missing_p w b = missing (get_or w.pg b nan) (get_or w.pd b nan) (get_or w.p b nan)

abbrev pub missing_q : Powers → ℕ → Float
missing_q w b = missing (get_or w.qg b nan) (get_or w.qd b nan) (get_or w.q b nan)

-- x stored at a row that exists
unfoldable pub at_row : List Float → ℕ → Float → List Float
at_row r row x = cond (ltb row none) (set r row x) r

-- the rows of the first k buses: p and q say which they are
unfoldable pub residual_to : ℕ → (ℕ → ℕ) → (ℕ → ℕ) → Powers → List Float
unfolding at_row
residual_to zero p q w = replicate 64 nought
residual_to (suc k) p q w = at_row (at_row (residual_to k p q w) (p k) (missing_p w k)) (q k) (missing_q w k)

abbrev pub residual_of : AcPfLayout → Powers → List Float
residual_of l w = residual_to l.n (p_row l) (q_row l) w

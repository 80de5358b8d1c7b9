-- 01, "Norm": the largest absolute value, 0.0 if empty, NaN if any entry is NaN. The entries are the first n places of a list.
pub mod Laws
use Rattle.std.specs.Prelude.{ℕ, zero, suc, ◌<◌, ◌≡◌, ◌⊎◌, Bool, true, false, cond, List, get_or, Float}
use Rattle.std.specs.Float.{nan}
use Rattle.std.specs.Float.Ieee.{lt, is_nan}
use Rattle.real.specs.Any.{any_below}
use Rattle.real.specs.Literals.{nought}
use Rattle.real.specs.Real.{absolute, larger}

-- whether any entry is NaN
abbrev pub any_nan : ℕ → List Float → Bool
any_nan n l = any_below n (λ i. is_nan (get_or l i nan))

-- the largest absolute value, 0.0 if empty
unfoldable pub largest : ℕ → List Float → Float
unfolding larger absolute
largest zero l = nought
largest (suc k) l = larger (largest k l) (absolute (get_or l k nan))

unfoldable pub norm_of : ℕ → List Float → Float
unfolding any_below largest
norm_of n l = cond (any_nan n l) nan (largest n l)

-- 01's sentence as facts of a number r. `norm-is` of Norm/Laws.antt says that norm_of has them.
pub record IsNorm (n : ℕ) (l : List Float) (r : Float) : Type 0 where
  pub empty : n ≡ 0 → r ≡ nought
  pub poisoned : (i : ℕ) → i < n → is_nan (get_or l i nan) ≡ true → r ≡ nan
  pub highest : any_nan n l ≡ false → (i : ℕ) → i < n → lt r (absolute (get_or l i nan)) ≡ false
  pub taken : any_nan n l ≡ false → (r ≡ nought) ⊎ ((i : ℕ) × (i < n) × (r ≡ absolute (get_or l i nan)))

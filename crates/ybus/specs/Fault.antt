-- 02, Ask 3: "Refusals: 14 tap not above zero, 15 a branch from a bus to itself, each with its row, .. row by row with 14 first". Branches that are off are
-- looked at like the others.
pub mod Laws
use Rattle.std.specs.Prelude.{ℕ, Bool, not, ◌||◌, cond, List, eqb, length, get_or, Float, Option, Some, None}
use Rattle.std.specs.Float.{nan}
use Rattle.std.specs.Float.Ieee.{lt}
use Rattle.real.specs.Literals.{nought}
use Rattle.real.specs.First.{first_below}
use Rattle.network.specs.Network.{Branches}
use Rattle.ybus.specs.Branch.{from_of, to_of}
use Rattle.ybus.specs.declared.Fault.{Fault}
use Rattle.ybus.specs.declared.Fault.TheVariants.{Tap, Ends}

-- not above zero, as a NaN is not
abbrev pub not_above : Float → Bool
not_above x = not (lt nought x)

-- the fault of a row at fault: 14 first
abbrev pub row_fault : ℕ → Float → Fault
row_fault e x = cond (not_above x) (Tap e) (Ends e)

module _ (ends : Branches) (tap : List Float) where
  -- 14, of row e
  abbrev pub tap_fails : ℕ → Bool
  tap_fails e = not_above (get_or tap e nan)

  -- 15, of row e
  abbrev pub ends_meet : ℕ → Bool
  ends_meet e = eqb (from_of ends e) (to_of ends e)

  -- one or the other
  abbrev pub row_fails : ℕ → Bool
  row_fails e = tap_fails e || ends_meet e

  unfoldable pub fault_at : Option ℕ → Option Fault
  fault_at (Some e) = Some (row_fault e (get_or tap e nan))
  fault_at None = None

  -- row by row
  abbrev pub fault_of : Option Fault
  fault_of = fault_at (first_below (length ends.from) row_fails)

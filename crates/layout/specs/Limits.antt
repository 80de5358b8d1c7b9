-- 01, "Limits": limits are summed per bus in generator order, from 0.0; and whether the bus has a generator.
pub mod Laws
use Rattle.std.specs.Prelude.{ℕ, zero, suc, false, cond, List, eqb, length, get_or, Float}
use Rattle.std.specs.Float.{nan, binary64}
use Rattle.std.specs.Float.Ieee.{add}
use Rattle.real.specs.Literals.{nought}
use Rattle.layout.specs.declared.Limits.{Limits}
use Rattle.layout.specs.Table.{table}
use Rattle.layout.specs.Kinds.{listed}

-- the limits q of the first k generators that stand at bus b, summed in generator order
unfoldable pub sum_at : ℕ → List ℕ → List Float → ℕ → Float
sum_at zero buses q b = nought
sum_at (suc k) buses q b = cond (eqb b (get_or buses k 0)) (add binary64 (sum_at k buses q b) (get_or q k nan)) (sum_at k buses q b)

-- after the first k generators; a bus has one where it stands among theirs
abbrev pub limits_to : ℕ → List ℕ → List Float → List Float → Limits
limits_to k buses qmin qmax =
    record {
      qmin = table 32 nought (sum_at k buses qmin);
      qmax = table 32 nought (sum_at k buses qmax);
      has_gen = table 32 false (listed k buses);
    }

unfoldable pub limits_of : List ℕ → List Float → List Float → Limits
limits_of buses qmin qmax = limits_to (length buses) buses qmin qmax

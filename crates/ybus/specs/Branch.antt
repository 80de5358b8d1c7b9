-- 02, Ask 3: "The four admittances (from-from, from-to, to-from, to-to) follow `branch_admittance`". y = g + jb, t is the polar number of tap and shift;
-- y_ff = ((y + y_fr) / tap²)·sw and y_tt = (y + y_to)·sw, part by part; y_ft = ((-y) / conj t)·sw and y_tf = ((-y) / t)·sw, by the complex quotient.
use Rattle.std.specs.Prelude.{ℕ, get_or}
use Rattle.std.specs.Float.{binary64, nan}
use Rattle.std.specs.Float.Ieee.{mul}
use Rattle.complex.specs.declared.Complex.{Complex}
use Rattle.complex.specs.Numbers.{complex, sum_of, negation_of, conjugate_of, quotient_of, divided_by, scaled_by, polar_of}
use Rattle.network.specs.Network.{Branches}
use Rattle.network.specs.BranchTable.{Values}
use Rattle.ybus.specs.declared.Branch.{Branch}
use Rattle.ybus.specs.declared.Admittance.{Admittance}

-- the buses that branch e joins
abbrev pub from_of : Branches → ℕ → ℕ
from_of ends e = get_or ends.from e 0

abbrev pub to_of : Branches → ℕ → ℕ
to_of ends e = get_or ends.to e 0

-- its nine numbers
abbrev pub branch_at : Values → ℕ → Branch
branch_at v e =
    record {
      g = get_or v.g e nan;
      b = get_or v.b e nan;
      g_fr = get_or v.g_fr e nan;
      b_fr = get_or v.b_fr e nan;
      g_to = get_or v.g_to e nan;
      b_to = get_or v.b_to e nan;
      tap = get_or v.tap e nan;
      shift = get_or v.shift e nan;
      sw = get_or v.sw e nan;
    }

-- y, y_fr, y_to and t
abbrev pub series : Branch → Complex
series x = complex x.g x.b

abbrev pub from_shunt : Branch → Complex
from_shunt x = complex x.g_fr x.b_fr

abbrev pub to_shunt : Branch → Complex
to_shunt x = complex x.g_to x.b_to

abbrev pub turns : Branch → Complex
turns x = polar_of x.tap x.shift

unfoldable pub y_ff : Branch → Complex
y_ff x = scaled_by (divided_by (sum_of (series x) (from_shunt x)) (mul binary64 x.tap x.tap)) x.sw

unfoldable pub y_tt : Branch → Complex
y_tt x = scaled_by (sum_of (series x) (to_shunt x)) x.sw

unfoldable pub y_ft : Branch → Complex
y_ft x = scaled_by (quotient_of (negation_of (series x)) (conjugate_of (turns x))) x.sw

unfoldable pub y_tf : Branch → Complex
y_tf x = scaled_by (quotient_of (negation_of (series x)) (turns x)) x.sw

abbrev pub admittance_of : Branch → Admittance
admittance_of x = record { ff = y_ff x; ft = y_ft x; tf = y_tf x; tt = y_tt x }

-- `rows::check_section` meets its contract: the rows left, after r, give what the whole section gives. Assumes nothing.
use Rattle.rows.specs.Rows.{section_of}
use Rattle.fields.specs.Cut.{pieces}
use mathlib.Core.Path.{◌≡◌}
use Prim.Native.Nat.{◌-◌, ◌≤◌}
use lib.Seq.{slice}
use Rattle.rows.proofs.check_section.Given as goal

abbrev pub invariant-loop-i : goal.invariant-loop-i
invariant-loop-i l = (l.i ≤ l.e) × (l.r ≤ l.i) × (section_of l.z l.r l.i (pieces 10 (slice l.i l.e l.s)) ≡ section_of l.z 0 l.a (pieces 10 (slice l.a l.e l.s)))

abbrev pub decreases-loop-i : goal.decreases-loop-i
decreases-loop-i l = l.e - l.i

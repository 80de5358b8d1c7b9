-- `rows::check_fields` meets its contract: the fields left, from field j on, give what all of them give. Assumes nothing.
use mathlib.Core.Path.{◌≡◌}
use Prim.Native.Nat.{◌-◌, ◌≤◌}
use lib.Seq.{slice}
use Rattle.fields.specs.Cut.{pieces}
use Rattle.rows.specs.Line.{fields_of}
use Rattle.rows.proofs.check_fields.Given as goal

abbrev pub invariant-loop-z : goal.invariant-loop-z
invariant-loop-z l = (l.i ≤ l.e) × (l.j ≤ l.i) × (fields_of l.z l.j l.i (pieces 32 (slice l.i l.e l.s)) ≡ fields_of l.z 0 l.a (pieces 32 (slice l.a l.e l.s)))

abbrev pub decreases-loop-z : goal.decreases-loop-z
decreases-loop-z l = l.e - l.i

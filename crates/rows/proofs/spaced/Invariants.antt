-- `rows::spaced` meets its contract: the fields left, after k, are as many and as full as all of them. Assumes nothing.
use mathlib.Core.Path.{◌≡◌}
use Prim.Native.Nat.{◌-◌, ◌≤◌}
use lib.Seq.{slice}
use Rattle.fields.specs.Cut.{pieces}
use Rattle.rows.specs.Line.{spaced_of}
use Rattle.rows.proofs.spaced.Given as goal

abbrev pub invariant-loop-i : goal.invariant-loop-i
invariant-loop-i l = (l.i ≤ l.e) × (l.k ≤ l.i) × (spaced_of l.k l.n (pieces 32 (slice l.i l.e l.f)) ≡ spaced_of 0 l.n (pieces 32 l.f))

abbrev pub decreases-loop-i : goal.decreases-loop-i
decreases-loop-i l = l.e - l.i

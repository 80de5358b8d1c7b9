-- `starts::island_references` meets its contract: the buses passed have their island's slack and reference. Assumes nothing.
use Prim.Native.Nat.{◌≤◌}
use mathlib.Core.Path.{◌≡◌}
use Rattle.std.specs.Prelude.{None}
use Rattle.real.specs.Literals.{nought}
use Rattle.layout.specs.Table.{table}
use Rattle.starts.specs.References.{slack_for, reference_for}
use Rattle.starts.proofs.island_references.Given as goal

abbrev pub invariant-loop-b : goal.invariant-loop-b
invariant-loop-b l = (l.b ≤ l.n) × (l.slack ≡ table l.b None (slack_for l.slacks.bus.now l.branches.from.now l.branches.to.now)) × (l.va ≡ table l.b nought (reference_for l.slacks.bus.now l.slacks.angle.now l.branches.from.now l.branches.to.now))

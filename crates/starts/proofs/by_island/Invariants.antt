-- `starts::by_island` meets its contract: after each row its island has its slack and its reference. Assumes nothing.
use Prim.Native.Nat.{◌≤◌}
use mathlib.Core.Path.{◌≡◌}
use Rattle.std.specs.Prelude.{None}
use lib.ListN.{length, get_or}
use Rattle.real.specs.Literals.{nought}
use Rattle.layout.specs.Table.{table}
use Rattle.starts.specs.References.{slack_of, angle_of}
use Rattle.starts.proofs.by_island.Given as goal

abbrev pub invariant-loop-i : goal.invariant-loop-i
invariant-loop-i l = (l.i ≤ l.i-end) × (l.i-end ≡ length l.slacks.bus.now) × (l.slack ≡ table 32 None (slack_of l.i l.slacks.bus.now (λ b. get_or l.labels b 0)))
    × (l.va ≡ table 32 nought (angle_of l.i l.slacks.bus.now l.slacks.angle.now (λ b. get_or l.labels b 0)))

-- What was written from a buffer's beginning on stands in its first places. Assumes nothing.
use Prim.Native.Nat.{ℕ, ◌+◌, ◌≤◌}
use mathlib.Core.Path.{◌≡◌}
use mathlib.Core.List.{List}
use native.Mathlib.Omega.{arith}
use lib.ListN.{length, take, drop}
use lib.Seq.{length-sets, sets-eq, take_at}
use Rattle.lines.specs.Lines.{Wrote}

pub front : {before bytes after : List ℕ} {k : ℕ} → Wrote before 0 bytes k after → k ≤ length after → take k after ≡ bytes
front {before} {bytes} {k = k} w h =
    let ends = w.ends in
    let room : 0 + length bytes ≤ length before = omega (arith, rw (w.left, length-sets before 0 bytes) at h) in
    rw (w.left, sets-eq bytes before 0 room) (take_at bytes (drop (0 + length bytes) before) k (omega arith))

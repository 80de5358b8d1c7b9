-- `islands::find` meets its contract, and ends. The invariant: every root is where it was, and the height of each bus in the table as it came is still a
-- rank. So the height of `node` there is the measure, although the table changes on the way. Assumes nothing.
use Prim.Native.Nat.{ℕ, ◌<◌}
use mathlib.Core.Path.{◌≡◌}
use Rattle.islands.specs.Forest.{Forest}
use Rattle.islands.specs.Forest.Laws.{height}
use Rattle.islands.proofs.find.Given as goal

abbrev pub invariant-loop-parent : goal.invariant-loop-parent
invariant-loop-parent l =
    (l.node < 32)
    × ((root : ℕ → ℕ) × Forest (height l.initial.parent 33) root l.parent)
    × ((rank root : ℕ → ℕ) → Forest rank root l.initial.parent → (root l.node ≡ root l.fn.node) × Forest rank root l.parent)

abbrev pub decreases-loop-parent : goal.decreases-loop-parent
decreases-loop-parent l = height l.initial.parent 33 l.node

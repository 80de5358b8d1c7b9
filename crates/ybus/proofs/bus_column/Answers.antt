-- `ybus::bus_column` meets its contract: the buses first, then two places for each branch. Assumes nothing.
use Prim.Native.Nat.{ℕ}
use mathlib.Core.Path.{◌∙◌}
use native.Mathlib.Omega.{arith}
use lib.ListN.{replicate, length-replicate}
use Rattle.ybus.specs.Listed.Laws.{pairs_onto}
use Rattle.ybus.proofs.bus_column.Goals as goal

pub returns : goal.returns
returns c =
    c.with_ends.ensures
    ∙ rw c.bus_numbers-l.ensures (pairs_onto _ _ _ _ _ (replicate 160 0) (omega (arith, length-replicate {A = ℕ} 160 0)))

-- `ybus::diagonal_parts` meets its contract: the places passed hold their sums. Assumes nothing.
use native.Mathlib.Omega.{arith}
use mathlib.Core.Path.{refl}
use Rattle.layout.specs.Table.Laws.{stored-none, stored_next, stored-all}
use Rattle.ybus.specs.Ybus.{diagonal_parts}
use Rattle.ybus.proofs.diagonal_parts.Goals as goal

pub loop-b-preserved : goal.loop-b-preserved
loop-b-preserved c = let l = c.loop-b in (stored_next l.invariant.0 (omega arith) refl, stored_next l.invariant.1 (omega arith) refl)

pub returns : goal.returns
unfolding diagonal_parts
returns c = let l = c.loop-b in rw (stored-all l.invariant.0 (omega arith), stored-all l.invariant.1 (omega arith))

pub loop-b-init : goal.loop-b-init
loop-b-init c = (stored-none, stored-none)

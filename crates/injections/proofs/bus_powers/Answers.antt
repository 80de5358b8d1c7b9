-- `injections::bus_powers` meets its contract: the places passed hold their powers. Assumes nothing.
use native.Mathlib.Omega.{arith}
use Rattle.layout.specs.Table.Laws.{stored-none, stored_next, stored-all}
use Rattle.injections.specs.Injections.{injected_of}
use Rattle.injections.proofs.bus_powers.Goals as goal

pub loop-b-preserved : goal.loop-b-preserved
loop-b-preserved c =
    let against = c.conjugate-against.ensures in
    let l = c.loop-b in (
      stored_next l.invariant.0 (omega arith) (rw (c.mul-x.ensures, against)),
      stored_next l.invariant.1 (omega arith) (rw (c.mul-x.ensures, against)),
    )

pub loop-b-init : goal.loop-b-init
unfolding injected_of
loop-b-init c = (stored-none, stored-none)

pub returns : goal.returns
unfolding injected_of
returns c = let l = c.loop-b in rw (stored-all l.invariant.0 (omega arith), stored-all l.invariant.1 (omega arith))

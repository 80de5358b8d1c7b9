-- `islands::join_all` meets its contract. The invariant: the roots are the groups of the lines passed. Assumes nothing.
use native.Mathlib.Omega.{arith}
use mathlib.Core.Path.{◌≡◌}
use Rattle.islands.specs.Islands.{group_of}
use native.Mathlib.Numerals.{add-one}
use lib.ListN.{length}
use Rattle.islands.proofs.join_all.Goals as goal

pub loop-k-init : goal.loop-k-init
unfolding group_of
loop-k-init c = (λ i. 0, c.alone-parent.ensures)

pub join-requires : goal.join-requires
join-requires c =
    let e = c.requires.below c.loop-k.k (omega arith) in
    (e.0, e.1, (c.loop-k.invariant.0, _, c.loop-k.invariant.1))

pub loop-k-preserved : goal.loop-k-preserved
unfolding group_of
loop-k-preserved c = rw add-one (c.join.ensures c.loop-k.invariant.0 _ c.loop-k.invariant.1)

pub returns : goal.returns
returns c =
    let e : c.loop-k.k ≡ length c.args.br_from.now = omega arith in
    rw e at c.loop-k.invariant

-- `ybus::diagonals` meets its contract: the sums are those of the branches passed. Assumes nothing.
use Rattle.std.proofs.Common.{◌≡◌, refl, arith, length}
use Rattle.std.proofs.Math.ListN.{get_or, set}
use Rattle.network.specs.Columns.{branches_in}
use Rattle.ybus.specs.Ybus.Laws.{sums-begin, sums-turn}
use Rattle.ybus.proofs.diagonals.Goals as goal

pub loop-e-init : goal.loop-e-init
loop-e-init c = (omega arith, refl, sums-begin _ c.args.y)

pub loop-e-preserved : goal.loop-e-preserved
loop-e-preserved c =
    let l = c.loop-e in
    let a = c.args in
    let from = get_or a.ends.from.now l.e 0 in (
      omega arith,
      refl,
      sums-turn (branches_in a.ends) a.y l.e (c.requires.1 l.e (omega arith)) (c.requires.2 l.e (omega arith)) l.d (set l.d from c.add.result) _ l.invariant.2
          (rw c.add.ensures)
          (rw c.add-in-loop-e.ensures),
    )

pub returns : goal.returns
returns c =
    let l = c.loop-e in
    let e : l.e ≡ length c.args.ends.from.now = omega arith in
    rw (← e) l.invariant.2

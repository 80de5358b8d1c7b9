-- `injections::currents` meets its contract: the currents are those of the triplets passed. Assumes nothing.
use mathlib.Core.Path.{◌≡◌, refl}
use native.Mathlib.Omega.{arith}
use native.Mathlib.Numerals.{add-one}
use lib.ListN.{length}
use Rattle.injections.specs.Injections.{currents_to}
use Rattle.injections.specs.Injections.Laws.{currents-turn}
use Rattle.injections.proofs.currents.Goals as goal

pub loop-t-init : goal.loop-t-init
unfolding currents_to
loop-t-init c = (omega arith, refl, refl)

pub bus-b-requires : goal.bus-b-requires
bus-b-requires c = let good = c.requires in (omega arith, good.few, good.rows_below)

pub bus-k-requires : goal.bus-k-requires
bus-k-requires c = let good = c.requires in (let e = good.cols in omega arith, good.few, good.cols_below)

pub loop-t-preserved : goal.loop-t-preserved
loop-t-preserved c =
    let l = c.loop-t in (
      omega arith,
      l.invariant.1,
      rw (add-one, currents-turn, ← l.invariant.2, ← c.bus-b.ensures.0, ← c.bus-k.ensures.0, c.add.ensures, c.mul-x.ensures, c.new.ensures),
    )

pub returns : goal.returns
returns c =
    let l = c.loop-t in
    let e : l.t ≡ length c.args.y.row.now = omega arith in
    rw (l.invariant.2, e)

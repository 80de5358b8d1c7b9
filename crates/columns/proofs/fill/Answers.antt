-- `columns::fill` meets its contract, by the turns of a column. Assumes nothing.
use Rattle.std.proofs.Common.{arith, length}
use Rattle.std.proofs.Math.Seq.{take-length}
use Rattle.std.proofs.lemmas.List.{set-get_or}
use Rattle.fields.specs.Cut.Laws.{slice-part}
use Rattle.columns.specs.Columns.{cell_of}
use Rattle.columns.specs.Columns.Laws.{fill-starts, fill_stops, fill-full, fill-turn}
use Rattle.columns.proofs.fill.Goals as goal

pub loop-x-init : goal.loop-x-init
loop-x-init g c =
    let a = c.args in
    fill-starts (λ r. g.T.Cell.value (cell_of a.j r)) a.l.now 0 (length a.l.now) a.out.now (omega arith) (rw (take-length a.l.now) (omega arith))

pub returns-then-p-e : goal.returns-then-p-e
returns-then-p-e g c =
    let l = c.loop-x in
    let f = c.find-p in
    rw (set-get_or l.out l.x-index c.x-item.result) (rw (take-length c.args.l.now) at (fill_stops _ _ _ _ _ l.i l.x-index l.out l.invariant f.result f.ensures (omega arith)))

pub loop-x-preserved : goal.loop-x-preserved
loop-x-preserved g c =
    let l = c.loop-x in
    let f = c.find-p in
    fill-turn _ _ _ _ _ l.i l.x-index l.out l.invariant f.result f.ensures (omega arith) c.cell_at.result (rw (slice-part c.args.l.now l.i f.result f.ensures.low) at c.cell_at.ensures)

pub returns : goal.returns
returns g c = let l = c.loop-x in rw (take-length c.args.l.now) at (fill-full _ _ _ _ _ l.i l.x-index l.out l.invariant (omega arith))

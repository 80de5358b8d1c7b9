-- `layout::default_kinds` meets its contract: after each row its bus is a slack. Assumes nothing.
use mathlib.Core.Path.{◌≡◌, ◌∙◌}
use native.Mathlib.Omega.{arith}
use lib.ListN.{length}
use Rattle.layout.specs.Kinds.Laws.{kinds-begin, kinds-row, kinds-end}
use Rattle.layout.proofs.default_kinds.Goals as goal

pub loop-b-init : goal.loop-b-init
loop-b-init c = let a = c.args in c.flagged-kinds.ensures ∙ kinds-begin a.n a.kind.now a.slacks.now

pub loop-b-preserved : goal.loop-b-preserved
loop-b-preserved c =
    let l = c.loop-b in
    rw l.invariant (kinds-row c.args.n l.b-index c.args.kind.now c.args.slacks.now (c.requires.2 l.b-index (omega arith)) c.requires.0)

pub returns : goal.returns
returns c =
    let l = c.loop-b in
    let a = c.args in
    let e : l.b-index ≡ length a.slacks.now = omega arith in
    l.invariant ∙ rw e (kinds-end a.n a.kind.now a.slacks.now)

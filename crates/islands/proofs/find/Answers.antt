-- `islands::find` meets its contract, and ends. The invariant: every root is where it was, and the height of each bus in the table as it came is still a
-- rank. So the height of `node` there is the measure, although the table changes on the way. Assumes nothing.
use native.Mathlib.Omega.{arith}
use mathlib.Core.Path.{refl, sym, ◌∙◌}
use lib.ListN.{get_or}
use lib.Seq.{get_or-set_same}
use Rattle.islands.specs.Forest.Laws.{by_height, two_up, halved}
use Rattle.islands.proofs.find.Goals as goal

pub loop-parent-init : goal.loop-parent-init
loop-parent-init c = (omega arith, (c.requires.1.1, by_height c.args.parent.now c.requires.1.2), λ rank root w. (refl, w))

pub offset_bounds-parent-above : goal.offset_bounds-parent-above
offset_bounds-parent-above c = let l = c.loop-parent in omega (arith, l.invariant.1.1.within l.node l.invariant.0)

pub bounds-parent-above : goal.bounds-parent-above
bounds-parent-above c = let l = c.loop-parent in l.invariant.1.1.within l.node l.invariant.0

pub loop-parent-smaller : goal.loop-parent-smaller
loop-parent-smaller c =
    let l = c.loop-parent in
    rw (get_or-set_same l.parent l.node (get_or l.parent (get_or l.parent l.node 0) 0) 0 (omega (arith, l.invariant.1.1.size))) (two_up l.parent l.invariant.1.1 l.node l.invariant.0 c.loop-parent-test.true)

pub loop-parent-preserved : goal.loop-parent-preserved
loop-parent-preserved c =
    let l = c.loop-parent in
    let n = c.loop-parent-test.true in
    let hang = halved l.parent l.invariant.1.1 l.node l.invariant.0 n in (
      hang.within l.node l.invariant.0,
      (l.invariant.1.0, hang),
      λ rank root w.
          let k = l.invariant.2 rank root w in
          let h = halved l.parent k.1 l.node l.invariant.0 n in (h.along l.node l.invariant.0 ∙ k.0, h),
    )

pub returns : goal.returns
returns c =
    let l = c.loop-parent in (
      l.invariant.0,
      λ rank root w.
          let k = l.invariant.2 rank root w in (sym (k.1.top l.node l.invariant.0 c.loop-parent-test.false) ∙ k.0, k.1),
    )

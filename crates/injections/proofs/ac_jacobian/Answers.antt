-- `injections::ac_jacobian` meets its contract: the workspace is that of the triplets passed, at any angles that give the unit column. Assumes nothing.
use mathlib.Core.Path.{◌≡◌, refl, sym, ◌∙◌}
use native.Mathlib.Omega.{arith}
use native.Mathlib.Numerals.{add-one}
use lib.ListN.{length}
use Rattle.injections.specs.Jacobian.Laws.{unit-at, jacobian-turn, jacobian-end}
use Rattle.injections.proofs.ac_jacobian.Goals as goal

-- ---- the needs
pub voltages-unit-requires : goal.voltages-unit-requires
voltages-unit-requires c = c.requires.0.few

pub loop-t-init : goal.loop-t-init
loop-t-init c = (omega arith, refl, refl, λ va h. sym (jacobian-end _ va _ _ _))

pub bus-i-requires : goal.bus-i-requires
bus-i-requires c = let good = c.requires.0 in (omega arith, good.few, good.rows_below)

pub loop-t-preserved : goal.loop-t-preserved
loop-t-preserved c =
    let l = c.loop-t in (
      omega arith,
      l.invariant.1,
      c.enter_all.auto.w ∙ l.invariant.2,
      λ va h.
          rw (
            add-one,
            jacobian-turn,
            ← l.invariant.3 va h,
            ← c.bus-i.ensures.0,
            ← c.bus-k.ensures.0,
            ← h _ c.bus-k.ensures.1,
            ← c.new-entry.ensures,
            ← c.derivatives_at-d.ensures,
          ) c.enter_all.ensures,
    )

pub returns : goal.returns
returns c =
    let l = c.loop-t in
    let va = c.args.va in
    let e : l.t ≡ length c.args.y.row.now = omega arith in
    rw e at (l.invariant.3 va (λ b h. rw c.voltages-unit.ensures (unit-at _ va b h c.requires.0.few)))

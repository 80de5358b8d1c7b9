-- `ybus::admittances` meets its contract: the places passed hold their branches' admittances. Assumes nothing.
use mathlib.Core.Path.{refl, ap, ◌∙◌}
use native.Mathlib.Omega.{arith}
use Rattle.layout.specs.Table.Laws.{stored-none, stored_next, stored-all}
use Rattle.ybus.specs.Branch.{admittance_of}
use Rattle.ybus.specs.Ybus.{admittances_of}
use Rattle.ybus.proofs.admittances.Goals as goal

pub loop-e-preserved : goal.loop-e-preserved
loop-e-preserved c =
    let l = c.loop-e in
    (refl, stored_next l.invariant.1 (omega arith) (c.branch_admittance.ensures ∙ ap admittance_of c.branch_at.ensures))

pub returns : goal.returns
unfolding admittances_of
returns c = stored-all c.loop-e.invariant.1 (omega arith)

pub loop-e-init : goal.loop-e-init
loop-e-init c = (refl, stored-none)

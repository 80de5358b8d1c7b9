-- `ybus::branch_admittance` meets its contract, by those of the operations. Assumes nothing.
use Rattle.ybus.specs.Branch.{y_ff, y_ft, y_tf, y_tt}
use Rattle.ybus.proofs.branch_admittance.Goals as goal

pub returns : goal.returns
unfolding y_ff y_ft y_tf y_tt
returns c =
    simp (
      c.mul-tt.ensures,
      c.add-2.ensures,
      c.mul-tf.ensures,
      c.div-3.ensures,
      c.neg-2.ensures,
      c.mul-ft.ensures,
      c.div-2.ensures,
      c.neg.ensures,
      c.mul-ff.ensures,
      c.div.ensures,
      c.add.ensures,
      c.conjugate-against.ensures,
      c.new-y_to.ensures,
      c.new-y_fr.ensures,
      c.polar-t.ensures,
      c.new-y.ensures,
    )

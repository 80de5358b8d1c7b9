-- `flows::branch_flow` meets its contract, by those of the operations. Assumes nothing.
use Rattle.flows.specs.Flows.{flow_of}
use Rattle.flows.proofs.branch_flow.Goals as goal

pub returns : goal.returns
unfolding flow_of
returns c =
    simp (
      c.mul-s_to.ensures,
      c.mul-s_from.ensures,
      c.conjugate-against_to.ensures,
      c.conjugate-against_from.ensures,
      c.add-i_to.ensures,
      c.mul-4.ensures,
      c.mul-3.ensures,
      c.add-i_from.ensures,
      c.mul-2.ensures,
      c.mul.ensures,
    )

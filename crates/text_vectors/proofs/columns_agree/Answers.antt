-- `text_vectors::columns_agree` meets its contract: the reading is told by its answer and its tables. Assumes nothing.
use Rattle.vectors.specs.Words.Laws.{same-told}
use Rattle.text_vectors.proofs.Papers.{outcome_parts}
use Rattle.text_vectors.proofs.columns_agree.Goals as goal

pub returns : goal.returns
returns c =
    same-told c.read_case-v.ensures.read
    (outcome_parts c.args.s.now c.answered.ensures (same-told c.read.ensures c.buses_agree.ensures) (same-told c.read-2.ensures c.slacks_agree.ensures)
    (same-told c.read-3.ensures c.generators_agree.ensures) (same-told c.read-4.ensures c.branches_agree.ensures)
    (same-told c.read-5.ensures c.triplets_agree.ensures) (same-told c.read-6.ensures c.branches_agree-2.ensures)
    (same-told c.read-7.ensures c.values_agree.ensures))

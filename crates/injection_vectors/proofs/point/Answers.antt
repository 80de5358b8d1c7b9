-- `injection_vectors::point` meets its contract: the triplets are those told. Assumes nothing.
use Rattle.injection_vectors.proofs.Agreement.{first_told, ybus-parts}
use Rattle.injection_vectors.proofs.point.Goals as goal

pub agrees-requires : goal.agrees-requires
agrees-requires c =
    let few = c.requires.triplets in (
      c.requires,
      ybus-parts _ _ _ _ _ _ (rw c.told-row.ensures (first_told _ _ _ _ few)) (rw c.told-col.ensures (first_told _ _ _ _ few))
          (rw c.told-re.ensures (first_told _ _ _ _ few)) (rw c.told-im.ensures (first_told _ _ _ _ few)),
    )

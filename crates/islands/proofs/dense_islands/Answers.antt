-- `islands::dense_islands` meets its contract. Assumes nothing.
use native.Mathlib.Omega.{arith}
use Rattle.islands.specs.Islands.{labels_of}
use Rattle.islands.proofs.dense_islands.Goals as goal

pub join_all-requires : goal.join_all-requires
join_all-requires c =
    let e = c.requires.1 in
    record { paired = e.paired; below = λ k h. let q = e.below k h in (omega (arith, q.0), omega (arith, q.1)) }

pub returns : goal.returns
unfolding labels_of
returns c = c.label_all.ensures c.join_all.ensures.0 _ c.join_all.ensures.1

-- `injection_vectors::place` meets its contract, by its ways; a row below dim ends where dim rows end. Assumes nothing.
use borrow.Author.Tests.{lt-ltb, le-ltb}
use Rattle.injection_vectors.specs.Told.{place_told}
use Rattle.injection_vectors.proofs.place.Goals as goal
use Rattle.injection_vectors.proofs.place.Goals.{then-dim-row-via-then-dim-row, then-dim-row-via-else-dim-row+then-dim-col}

pub returns-then-dim-row : goal.returns-then-dim-row
unfolding place_told
returns-then-dim-row c =
    elim c.then-dim-row.branch [ then-dim-row-via-then-dim-row w ↦ rw (le-ltb _ _ w.if-dim-row.true) | then-dim-row-via-else-dim-row+then-dim-col w ↦ rw (lt-ltb _ _ w.if-dim-row.false, le-ltb _ _ w.if-dim-col.true) ]

pub returns : goal.returns
unfolding place_told
returns c = rw (lt-ltb _ _ c.if-dim-row.false, lt-ltb _ _ c.if-dim-col.false) c.double_at.ensures

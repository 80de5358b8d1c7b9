-- `linsolve_vectors::slot` meets its contract, by its ways. Assumes nothing.
use borrow.Author.Tests.{lt-ltb, le-ltb, eq-eqb, ne_eqb}
use Rattle.linsolve_vectors.specs.Told.{slot_of}
use Rattle.linsolve_vectors.proofs.slot.Goals as goal

pub returns-then-dim-col-clause-is : goal.returns-then-dim-col-clause-is
unfolding slot_of
returns-then-dim-col-clause-is c = rw (le-ltb _ _ c.if-dim-col.true)

pub returns-then-row-eq64-clause-is : goal.returns-then-row-eq64-clause-is
unfolding slot_of
returns-then-row-eq64-clause-is c = rw (lt-ltb _ _ c.if-dim-col.false, eq-eqb _ _ c.if-row-eq64.true)

pub returns-then-row-dim-clause-is : goal.returns-then-row-dim-clause-is
unfolding slot_of
returns-then-row-dim-clause-is c = rw (lt-ltb _ _ c.if-dim-col.false, ne_eqb _ _ c.if-row-eq64.false, lt-ltb _ _ c.if-row-dim.true)

pub returns-clause-is : goal.returns-clause-is
unfolding slot_of
returns-clause-is c = rw (lt-ltb _ _ c.if-dim-col.false, ne_eqb _ _ c.if-row-eq64.false, le-ltb _ _ c.if-row-dim.false)

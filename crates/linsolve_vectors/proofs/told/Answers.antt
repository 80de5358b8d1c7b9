-- `linsolve_vectors::told` meets its contract, by its two ways. Assumes nothing.
use Rattle.linsolve_vectors.specs.Told.{told_of}
use Rattle.linsolve_vectors.proofs.told.Goals as goal

pub returns-in-Some : goal.returns-in-Some
unfolding told_of
returns-in-Some c = rw (← c.in-Some.ensures.is) c.double_at.ensures

pub returns-in-None : goal.returns-in-None
unfolding told_of
returns-in-None c = rw (← c.in-None.ensures.is) c.mark.ensures

-- `real::max` meets its contract: each way out is a case of `max_of`. Assumes nothing.
use Rattle.real.specs.Real.{larger, max_of}
use Rattle.real.proofs.max.Goals as goal

pub returns-then-is_nan : goal.returns-then-is_nan
unfolding max_of
returns-then-is_nan c = rw (← c.is_nan.ensures, c.if-is_nan.true)

pub returns-then-a-b : goal.returns-then-a-b
unfolding max_of larger
returns-then-a-b c = rw (← c.is_nan.ensures, c.if-is_nan.false, c.if-a-b.true)

pub returns-else-a-b : goal.returns-else-a-b
unfolding max_of larger
returns-else-a-b c = rw (← c.is_nan.ensures, c.if-is_nan.false, c.if-a-b.false)

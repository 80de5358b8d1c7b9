-- `real::is_nan` meets its contract: only NaN differs from itself. Assumes nothing.
use Rattle.real.specs.Real.Laws.{ne-nan}
use Rattle.real.proofs.is_nan.Goals as goal

pub returns : goal.returns
returns c = ne-nan c.args.x

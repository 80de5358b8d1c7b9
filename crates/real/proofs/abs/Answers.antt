-- `real::abs` meets its contract, by the laws of proofs/Absolute.antt. Assumes nothing.
use Rattle.real.proofs.Absolute.{turned, cleared, kept}
use Rattle.real.proofs.abs.Goals as goal

pub returns-then-x : goal.returns-then-x
returns-then-x c = turned c.args.x c.if-x.true

pub returns-then-x-2 : goal.returns-then-x-2
returns-then-x-2 c = cleared c.args.x c.well_formed.0.1 c.if-x-2.true

pub returns : goal.returns
returns c = kept c.args.x c.if-x.false c.if-x-2.false

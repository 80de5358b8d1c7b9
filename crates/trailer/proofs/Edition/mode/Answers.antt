-- `trailer::Edition::mode` meets its contract: what a flag asks for, and the case start of any other byte. Assumes nothing.
use Rattle.trailer.specs.Trailer.Laws.{asked-mode}
use Rattle.trailer.proofs.Edition.mode.Goals as goal

pub returns : goal.returns
returns c = rw (c.unwrap_or.ensures, c.start.ensures, asked-mode)

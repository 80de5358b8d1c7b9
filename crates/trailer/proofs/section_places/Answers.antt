-- `trailer::section_places` meets its contract: each place by its own call. Assumes nothing.
use Rattle.trailer.proofs.section_places.Goals as goal

pub returns : goal.returns
returns c =
    rw (c.start_of.ensures, c.start_of-2.ensures, c.start_of-3.ensures, c.start_of-4.ensures, c.end_of.ensures, c.end_of-2.ensures, c.behind_g-z.ensures, c.last.ensures, c.width.ensures)

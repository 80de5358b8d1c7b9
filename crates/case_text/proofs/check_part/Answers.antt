-- `case_text::check_part` meets its contract: a good trailer's sections lie in the text. Assumes nothing.
use native.Mathlib.Omega.{arith}
use Rattle.trailer.specs.Trailer.{bytes_of}
use Rattle.trailer.specs.Trailer.Laws.{within}
use Rattle.case_text.specs.Text.{part_by}
use Rattle.case_text.proofs.check_part.Goals as goal

pub check_section-requires : goal.check_section-requires
check_section-requires c =
    let a = c.args in
    let w = within a.x a.s.now a.t c.requires.1 a.z c.requires.2 in
    omega (arith, w.ordered, w.inside)

pub returns : goal.returns
unfolding part_by bytes_of
returns c = rw (← c.start_of.ensures, ← c.end_of.ensures) c.check_section.ensures

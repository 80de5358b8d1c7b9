-- `trailer::start_of` meets its contract: the number of the section's group. Assumes nothing.
use mathlib.Core.Path.{ap, ◌∙◌}
use Rattle.trailer.specs.Trailer.{group_number}
use Rattle.trailer.proofs.start_of.Goals as goal

pub returns : goal.returns
returns c =
    let a = c.args in
    c.group_number.ensures ∙ ap (group_number a.s.now a.t) c.index.ensures.0

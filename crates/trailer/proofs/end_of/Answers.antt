-- `trailer::end_of` meets its contract: the number of the group behind the section's. Assumes nothing.
use mathlib.Core.Path.{ap, ◌∙◌}
use Prim.Native.Nat.{ℕ, ◌+◌}
use Rattle.trailer.specs.Trailer.{group_number}
use Rattle.trailer.proofs.end_of.Goals as goal

pub returns : goal.returns
returns c =
    let a = c.args in
    c.group_number.ensures ∙ ap (λ (j : ℕ). group_number a.s.now a.t (j + 1)) c.index.ensures.0

-- `trailer::is_trailer` meets its contract: the flag, and what is behind it. Assumes nothing.
use Rattle.std.proofs.Common.{◌≡◌, true, false, get_or, is_some, sym, ap, ◌∙◌}
use Rattle.trailer.specs.Trailer.{flagged, trailer_of}
use Rattle.trailer.specs.Trailer.Laws.{asked-flagged}
use Rattle.trailer.proofs.is_trailer.Goals as goal

pub returns-then-is_some : goal.returns-then-is_some
unfolding trailer_of
returns-then-is_some c =
    let a = c.args in
    let f : flagged a.e (get_or a.s.now a.t 0) ≡ true = sym (asked-flagged a.e (get_or a.s.now a.t 0)) ∙ sym (ap is_some c.start.ensures) ∙ sym c.is_some.ensures ∙ c.if-is_some.true in
    rw (f, ← c.groups.ensures.0) c.is_trailer_by.ensures

pub returns-else-is_some : goal.returns-else-is_some
unfolding trailer_of
returns-else-is_some c =
    let a = c.args in
    let f : flagged a.e (get_or a.s.now a.t 0) ≡ false = sym (asked-flagged a.e (get_or a.s.now a.t 0)) ∙ sym (ap is_some c.start.ensures) ∙ sym c.is_some.ensures ∙ c.if-is_some.false in
    rw f c.if-is_some.false

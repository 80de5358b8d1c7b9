-- `case_text::check_text` meets its contract: the ways are those of the definition. Assumes nothing.
use Rattle.std.proofs.Common.{refl, sym, ◌∙◌, arith}
use Rattle.case_text.specs.Text.Laws.{text-short, text-long, text-untrailed, text-strange, text-body}
use Rattle.case_text.proofs.check_text.Goals as goal

pub returns-then-n-w : goal.returns-then-n-w
returns-then-n-w c = text-short _ _ _ c.width-w.ensures c.if-n-w.true

pub returns-then-n-gt32768 : goal.returns-then-n-gt32768
returns-then-n-gt32768 c = text-long _ _ _ c.width-w.ensures c.if-n-w.false c.if-n-gt32768.true

pub is_trailer-requires : goal.is_trailer-requires
is_trailer-requires c = omega (arith, c.width-w.ensures, c.if-n-w.false)

pub returns-then-not-is_trailer : goal.returns-then-not-is_trailer
returns-then-not-is_trailer c =
    text-untrailed _ _ _ c.width-w.ensures c.if-n-w.false c.if-n-gt32768.false (sym c.is_trailer.ensures ∙ c.if-not-is_trailer.true)

pub returns-in-Some : goal.returns-in-Some
returns-in-Some c =
    text-strange _ _ _ c.width-w.ensures c.if-n-w.false c.if-n-gt32768.false (sym c.is_trailer.ensures ∙ c.if-not-is_trailer.false) _ c.in-Some.ensures.0 c.in-Some.ensures.1

pub returns : goal.returns
returns c =
    text-body _ _ _ c.width-w.ensures c.if-n-w.false c.if-n-gt32768.false (sym c.is_trailer.ensures ∙ c.if-not-is_trailer.false) _ refl c.in_default.ensures
    c.body.result c.body.ensures

-- `case_text::known_first` meets its contract: a digit is of the alphabet, and of the other bytes what is contained is what the list has. Assumes nothing.
use Rattle.std.proofs.Common.{sym, ◌∙◌}
use Rattle.case_text.specs.Alphabet.{alphabet}
use Rattle.case_text.specs.Alphabet.Laws.{any-has, digit-has}
use Rattle.case_text.proofs.known_first.Goals as goal

pub returns-then-is_ascii_digit : goal.returns-then-is_ascii_digit
returns-then-is_ascii_digit c =
    let d = sym c.is_ascii_digit.ensures.value ∙ c.if-is_ascii_digit.true in
    c.if-is_ascii_digit.true ∙ sym (digit-has c.args.b d)

pub returns-else-is_ascii_digit : goal.returns-else-is_ascii_digit
returns-else-is_ascii_digit c = c.contains.ensures.value ∙ any-has c.args.b alphabet

-- `case_text::stranger` meets its contract: the first byte that is not known is the first that is not of the alphabet. Assumes nothing.
use Rattle.std.proofs.Common.{◌≡◌, true, false, take, rules, length-take-le}
use borrow.Author.Tests.{tests}
use Rattle.std.proofs.lemmas.Iterator.{YieldsList-from_slice, IsFirst-from_position}
use Rattle.fields.specs.Cut.{has}
use Rattle.case_text.specs.Alphabet.{alphabet_of}
use Rattle.case_text.specs.Alphabet.Laws.{first-strange}
use Rattle.case_text.proofs.stranger.Goals as goal

pub returns : goal.returns
returns c =
    let a = c.args in
    let l = take a.e a.s.now in
    first-strange a.x l a.e (length-take-le a.e a.s.now c.requires) c.position.result
    (IsFirst-from_position _ _ _ (λ b. has b (alphabet_of a.x) ≡ false) (λ b. has b (alphabet_of a.x) ≡ true) c.position.ensures.ran (YieldsList-from_slice l cc) (λ b q k. search (rules, tests)) (λ b q k. search (rules, tests)))

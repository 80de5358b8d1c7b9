-- `vectors::word` meets its contract, by that of `pair`. Assumes nothing.
use borrow.Author.Rules.{rules}
use Rattle.vectors.specs.Words.{word_of}
use Rattle.vectors.proofs.word.Goals as goal

pub returns : goal.returns
unfolding word_of
returns c = search rules

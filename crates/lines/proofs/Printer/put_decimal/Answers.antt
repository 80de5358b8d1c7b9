-- `lines::Printer::put_decimal` meets its contract: the fewest digits that hold a 64-bit number are at most 20. Assumes nothing.
use Rattle.std.proofs.Common.{◌∙◌, arith}
use Rattle.lines.specs.Lines.Laws.{decimal-is, fewest-fits}
use Rattle.lines.specs.Printer.Laws.{at_most}
use Rattle.lines.proofs.Printer.put_decimal.Goals as goal

pub returns : goal.returns
returns c =
    let k = fewest-fits 10 1 20 _ _ (omega arith) (omega arith) (omega arith) c.decimal-k.ensures.len in
    at_most (c.decimal-k.ensures.digits ∙ decimal-is _ 20 _ c.decimal-k.ensures.len k) (omega (arith, k)) c.put.ensures

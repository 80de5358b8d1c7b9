-- `Reader::group` meets its contract: five digits are far below the limit. Assumes nothing.
use Rattle.std.proofs.Common.{◌+◌, ◌∙◌, arith, eq-eqb}
use Rattle.std.proofs.Math.Seq.{slice, length-slice}
use Rattle.fields.specs.Cut.Laws.{slice-part}
use Rattle.fields.specs.Digits.Laws.{limited-short}
use Rattle.trailer.proofs.Reader.group.Goals as goal

pub returns-then-self-eq32 : goal.returns-then-self-eq32
returns-then-self-eq32 c =
    let r = c.args.self in
    let few = length-slice (r.at + 1) (r.at + 6) r.text.now (omega arith) in
    rw (eq-eqb _ 32 c.if-self-eq32.true) (rw (slice-part r.text.now (r.at + 1) (r.at + 6) (omega arith)) at c.whole.ensures ∙ limited-short (slice (r.at + 1) (r.at + 6) r.text.now) (rw few (omega arith)))

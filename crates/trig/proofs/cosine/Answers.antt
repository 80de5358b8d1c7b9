-- `trig::cosine` meets its contract, by that of `horner`: its constants are the rule's, by the table. Assumes nothing.
use Rattle.std.proofs.Common.{sym, ap, ◌∙◌}
use lib.Ieee.{binary64, mul, of_int, of_bits, neg}
use Rattle.trig.specs.Sine.{horner, cosine_of}
use Rattle.trig.proofs.Table.{cosine-table}
use Rattle.trig.proofs.cosine.Goals as goal

pub returns : goal.returns
unfolding cosine_of of_int of_bits neg
returns c = rw (c.horner.ensures ∙ sym (ap (horner (mul binary64 c.args.r c.args.r)) cosine-table))

-- `trig::sine` meets its contract, by that of `horner`: its constants are the rule's, by the table. Assumes nothing.
use Rattle.std.proofs.Common.{sym, ap, ◌∙◌}
use lib.Ieee.{binary64, mul, of_bits, neg}
use Rattle.trig.specs.Sine.{horner, sine_of}
use Rattle.trig.proofs.Table.{sine-table}
use Rattle.trig.proofs.sine.Goals as goal

pub returns : goal.returns
unfolding sine_of of_bits neg
returns c = rw (c.horner.ensures ∙ sym (ap (horner (mul binary64 c.args.r c.args.r)) sine-table))

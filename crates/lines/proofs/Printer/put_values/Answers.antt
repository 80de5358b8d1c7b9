-- `lines::Printer::put_values` meets its contract: one value more in each turn. Assumes nothing.
use Rattle.std.proofs.Common.{◌<◌, length, add-one, arith, sym}
use Rattle.real.specs.declared.Value.TheVariants.{Whole}
use Rattle.lines.specs.Lines.{printed_values}
use Rattle.lines.specs.Lines.Laws.{printed-more}
use Rattle.lines.specs.Printer.Laws.{nothing_printed, in_turn, at_most}
use Rattle.lines.proofs.Printer.put_values.Goals as goal

pub loop-v-init : goal.loop-v-init
unfolding printed_values
loop-v-init c = nothing_printed _

pub loop-v-preserved : goal.loop-v-preserved
loop-v-preserved c =
    let h : c.loop-v.v-index < length c.args.values.now = omega arith in
    at_most (rw add-one (sym (printed-more c.args.values.now c.loop-v.v-index (Whole 0) h))) (omega arith) (in_turn c.loop-v.invariant c.put_value.ensures)

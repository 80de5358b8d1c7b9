-- `trig::sin_cos` meets its contract: its parts do, and the product that `nearest` is handed is in range. Assumes nothing.
use Rattle.std.proofs.Common.{T, sym, ap, ◌∙◌, subst, w64, rules}
use lib.Ieee.{binary64, of_bits, of_int, neg, div}
use mir.ValLaws.{to_z-of_z}
use Rattle.trig.specs.Sine.{pair}
use Rattle.trig.proofs.Range.{in-range}
use Rattle.trig.proofs.Whole.{assembled, outside_low, outside_high}
use Rattle.trig.proofs.sin_cos.Goals as goal
use Rattle.trig.proofs.sin_cos.Goals.{else-x-via-then-x+else-x-2, else-x-via-else-x}

pub nearest-t-requires : goal.nearest-t-requires
unfolding neg of_bits
nearest-t-requires c =
    let r = in-range c.args.x (subst T (sym c.if-x.true) tt) (subst T (sym c.if-x-2.true) tt) in
    record { low = r.0; high = r.1 }

pub returns-then-x-2 : goal.returns-then-x-2
unfolding neg of_bits
returns-then-x-2 c =
    let n = c.nearest-t in
    c.by_quarter.ensures
    ∙ assembled c.args.x n.result.k n.result.quarter c.nearest_i64_to_f64-k.result c.sine.result c.cosine.result
    c.if-x.true c.if-x-2.true n.ensures.0 n.ensures.1 (c.nearest_i64_to_f64-k.ensures ∙ ap (of_int binary64) (to_z-of_z w64 n.result.k (search rules))) c.sine.ensures c.cosine.ensures

pub returns : goal.returns
unfolding neg of_bits div pair
returns c =
    elim c.else-x.branch [ else-x-via-then-x+else-x-2 w ↦ outside_high c.args.x w.if-x-2.false | else-x-via-else-x w ↦ outside_low c.args.x w.if-x.false ]

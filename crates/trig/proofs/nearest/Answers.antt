-- `trig::nearest` meets its contract: it goes by the sign to the positive number of the same size. Assumes nothing.
use Rattle.std.proofs.Common.{◌≡◌, ℕ, pos, neg_ℤ, ap, ◌∙◌, w64}
use mir.ValLaws.{to_z-of_z}
use Rattle.trig.specs.Sine.{whole_of, quarter_of}
use Rattle.trig.proofs.Signs.{positive-above, positive-below, whole_above, whole_below, whole-at-zero, as-signed, minus, minus-in, quarter-minus}
use Rattle.trig.proofs.nearest.Goals as goal

pub rounded-n-requires-clause-low : goal.rounded-n-requires-clause-low
rounded-n-requires-clause-low c = positive-above c.args.t c.if-t.true c.requires.high

pub rounded-n-requires-then-t-2-clause-low : goal.rounded-n-requires-then-t-2-clause-low
rounded-n-requires-then-t-2-clause-low c = (positive-below c.args.t c.if-t-2.true c.requires.low).0

pub rounded-n-requires-then-t-2-clause-high : goal.rounded-n-requires-then-t-2-clause-high
rounded-n-requires-then-t-2-clause-high c = (positive-below c.args.t c.if-t-2.true c.requires.low).1

pub returns-then-t : goal.returns-then-t
unfolding quarter_of
returns-then-t c =
    let n = c.rounded-n.result in
    let k : pos n ≡ whole_of c.args.t = ap pos c.rounded-n.ensures.0 ∙ whole_above c.args.t (positive-above c.args.t c.if-t.true c.requires.high) in
    (as-signed n c.rounded-n.ensures.1 ∙ k, ap quarter_of k)

pub overflow_sub-result : goal.overflow_sub-result
overflow_sub-result c = minus-in c.rounded-n-then-t-2.result c.rounded-n-then-t-2.ensures.1

pub returns-then-t-2 : goal.returns-then-t-2
returns-then-t-2 c =
    let n = c.rounded-n-then-t-2.result in
    let small = c.rounded-n-then-t-2.ensures.1 in
    let k : neg_ℤ (pos n) ≡ whole_of c.args.t =
    ap (λ (q : ℕ). neg_ℤ (pos q)) c.rounded-n-then-t-2.ensures.0 ∙ whole_below c.args.t (positive-below c.args.t c.if-t-2.true c.requires.low).0 in
    (to_z-of_z w64 _ (minus-in n small) ∙ minus n small ∙ k, quarter-minus n ∙ ap quarter_of k)

pub returns : goal.returns
unfolding quarter_of
returns c =
    let k = whole-at-zero c.args.t c.if-t.false c.if-t-2.false c.requires.low c.requires.high in
    (k, ap quarter_of k)

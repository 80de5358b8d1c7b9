-- `trailer::rising` meets its contract: the groups left, from the last number on, give what all of them give. Assumes nothing.
use Rattle.std.proofs.Common.{◌≡◌, ◌+◌, ◌*◌, ◌-◌, sym, ◌∙◌, arith}
use Rattle.trailer.specs.Trailer.Laws.{rising-end, rising-wrong, rising-falls, rising-on}
use Rattle.trailer.proofs.rising.Goals as goal

pub returns-in_default : goal.returns-in_default
returns-in_default c =
    let a = c.args in
    let l = c.loop-k in
    sym (rising-wrong (a.n - l.k) _ (a.at + 6 * l.k) l.low _ (omega arith) (sym c.group.ensures ∙ c.in_default.is)) ∙ l.invariant

pub returns-then-m-low : goal.returns-then-m-low
returns-then-m-low c =
    let a = c.args in
    let l = c.loop-k in
    sym (rising-falls (a.n - l.k) _ (a.at + 6 * l.k) l.low _ (omega arith) _ (sym c.group.ensures ∙ c.in-Some.is) c.if-m-low.true) ∙ l.invariant

pub loop-k-preserved : goal.loop-k-preserved
loop-k-preserved c =
    let a = c.args in
    let l = c.loop-k in
    let n : a.n - (l.k + 1) ≡ a.n - l.k - 1 = omega arith in
    let i : a.at + 6 * (l.k + 1) ≡ a.at + 6 * l.k + 6 = omega arith in
    rw (n, i) (sym (rising-on (a.n - l.k) _ (a.at + 6 * l.k) l.low _ (omega arith) _ (sym c.group.ensures ∙ c.in-Some.is) c.if-m-low.false) ∙ l.invariant)

pub returns : goal.returns
returns c =
    let a = c.args in
    let l = c.loop-k in
    sym (rising-end (a.n - l.k) _ (a.at + 6 * l.k) l.low _ (omega arith)) ∙ l.invariant

-- `rows::spaced` meets its contract: the fields left, after k, are as many and as full as all of them. Assumes nothing.
use Rattle.std.proofs.Common.{ℕ, List, length, sym, ap, ◌∙◌, arith, rules}
use Rattle.std.proofs.Math.Seq.{take-length}
use Rattle.fields.specs.Cut.{pieces}
use Rattle.rows.specs.Line.{spaced_of}
use Rattle.rows.specs.Line.Laws.{spaced-empty, spaced-last, spaced-on}
use Rattle.rows.proofs.spaced.Goals as goal

pub loop-i-init : goal.loop-i-init
loop-i-init c = let a = c.args in (search rules, search rules, ap (λ (l : List ℕ). spaced_of 0 a.n (pieces 32 l)) (take-length a.f.now))

pub returns-then-q-i : goal.returns-then-q-i
returns-then-q-i c =
    let a = c.args in
    let l = c.loop-i in
    let f = c.find-q in
    sym (spaced-empty a.f.now l.i (length a.f.now) f.result l.k a.n (omega arith) f.ensures c.if-q-i.true) ∙ l.invariant.2

pub returns-then-q-e : goal.returns-then-q-e
returns-then-q-e c =
    let a = c.args in
    let l = c.loop-i in
    let f = c.find-q in
    sym (spaced-last a.f.now l.i (length a.f.now) f.result l.k a.n (omega arith) f.ensures (omega arith) (omega arith)) ∙ l.invariant.2

pub loop-i-preserved : goal.loop-i-preserved
loop-i-preserved c =
    let a = c.args in
    let l = c.loop-i in
    let f = c.find-q in
    (omega arith, omega arith, sym (spaced-on a.f.now l.i (length a.f.now) f.result l.k a.n (omega arith) f.ensures (omega arith) (omega arith)) ∙ l.invariant.2)

-- `columns::piece` meets its contract: of the pieces left, piece n - k is piece n of all. Assumes nothing.
use Rattle.std.proofs.Common.{◌≡◌, ℕ, List, [], ◌-◌, ◌+◌, length, get_or, refl, sym, ap, ◌∙◌, arith, rules}
use Rattle.std.proofs.Math.Seq.{take-length}
use Rattle.fields.specs.Cut.{pieces}
use Rattle.fields.specs.Cut.Laws.{slice-none, slice-part}
use Rattle.columns.specs.Columns.Laws.{piece-here, piece-past, piece-on}
use Rattle.columns.proofs.piece.Goals as goal

pub loop-k-init : goal.loop-k-init
loop-k-init c =
    let a = c.args in
    let n : a.n - 0 ≡ a.n = omega arith in
    (search rules, rw n (ap (λ (l : List ℕ). get_or (pieces 32 l) a.n []) (take-length a.l.now)))

pub returns-then-q-e : goal.returns-then-q-e
returns-then-q-e c =
    let a = c.args in
    let e = length a.l.now in
    let l = c.loop-k in
    let f = c.find-q in
    slice-part a.l.now e e (omega arith) ∙ slice-none a.l.now e e refl ∙ sym (piece-past a.l.now l.i e f.result (a.n - l._k) f.ensures (omega arith) (omega arith)) ∙ l.invariant.1

pub loop-k-preserved : goal.loop-k-preserved
loop-k-preserved c =
    let a = c.args in
    let e = length a.l.now in
    let l = c.loop-k in
    let f = c.find-q in
    let n : a.n - (l._k + 1) ≡ a.n - l._k - 1 = omega arith in
    (omega arith, rw n (sym (piece-on a.l.now l.i e f.result (a.n - l._k) f.ensures (omega arith) (omega arith)) ∙ l.invariant.1))

pub returns : goal.returns
returns c =
    let a = c.args in
    let e = length a.l.now in
    let l = c.loop-k in
    let f = c.find-q-2 in
    slice-part a.l.now l.i f.result f.ensures.low ∙ sym (piece-here a.l.now l.i e f.result (a.n - l._k) f.ensures (omega arith)) ∙ l.invariant.1

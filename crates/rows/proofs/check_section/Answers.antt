-- `rows::check_section` meets its contract: the rows left, after r, give what the whole section gives. Assumes nothing.
use Rattle.fields.specs.Cut.Laws.{found}
use Rattle.rows.specs.Rows.Laws.{too_many, unended, line-good, line_refused, section_end_lem}
use Rattle.std.proofs.lemmas.Result.{err_from_is_err_and}
use mathlib.Core.Path.{refl, sym, ◌∙◌}
use native.Mathlib.Omega.{arith}
use borrow.Author.Rules.{rules}
use Rattle.rows.proofs.check_section.Goals as goal

pub loop-i-init : goal.loop-i-init
loop-i-init c = (search rules, search rules, refl)

pub returns-then-size-r : goal.returns-then-size-r
returns-then-size-r c =
    let a = c.args in
    let l = c.loop-i in
    sym (too_many a.z l.r a.s.now l.i a.e _ (omega arith) (omega arith)
    (found a.s.now l.i a.e 10 (omega arith) (omega arith) _ refl) (rw (← c.size.ensures) c.if-size-r.true)) ∙ l.invariant.2

pub returns-then-p-e : goal.returns-then-p-e
returns-then-p-e c =
    let f = c.find-p in
    let l = c.loop-i in
    sym (unended _ l.r _ l.i _ f.result (omega arith) (omega arith) f.ensures (rw (← c.size.ensures) c.if-size-r.false) (omega arith)) ∙ l.invariant.2

pub returns-in_err-check_line : goal.returns-in_err-check_line
returns-in_err-check_line c =
    let f = c.find-p in
    let l = c.loop-i in
    let p = err_from_is_err_and c.from_residual.result c.from_residual.ensures.1 in
    rw (p.1, p.2)
    (sym (line_refused _ l.r _ l.i _ f.result (omega arith) (omega arith) f.ensures (rw (← c.size.ensures) c.if-size-r.false) (omega arith) _ (sym c.in_err-check_line.ensures)) ∙ l.invariant.2)

pub loop-i-preserved : goal.loop-i-preserved
loop-i-preserved c =
    let f = c.find-p in
    let l = c.loop-i in (
      omega arith,
      omega arith,
      sym (line-good _ l.r _ l.i _ f.result (omega arith) (omega arith) f.ensures (rw (← c.size.ensures) c.if-size-r.false) (omega arith) (sym c.in_ok-check_line.ensures)) ∙ l.invariant.2,
    )

pub returns : goal.returns
returns c =
    let a = c.args in
    let l = c.loop-i in
    sym (section_end_lem a.z l.r a.s.now l.i a.e (omega arith)) ∙ l.invariant.2

-- `rows::check_fields` meets its contract: the fields left, from field j on, give what all of them give. Assumes nothing.
use mathlib.Core.Path.{refl, sym, ◌∙◌}
use native.Mathlib.Omega.{arith}
use lib.Seq.{slice}
use Rattle.rows.specs.Line.Laws.{good-is, field-wrong, field-last, field-on}
use Rattle.fields.specs.Cut.Laws.{slice-part}
use borrow.Author.Rules.{rules}
use Rattle.rows.proofs.check_fields.Goals as goal

pub loop-z-init : goal.loop-z-init
loop-z-init c = (search rules, search rules, refl)

pub returns-then-q-e : goal.returns-then-q-e
returns-then-q-e c =
    let f = c.find-q in
    let l = c.loop-z in
    -- what the two calls say of the field found: whether it is what is asked
    let said = good-is c.args.z l.j (slice l.i f.result c.args.s.now) c.wanted.result c.wanted.ensures c.good.result (rw (slice-part c.args.s.now l.i f.result f.ensures.low) at c.good.ensures) in
    sym (field-last _ _ l.i _ f.result l.j (omega arith) f.ensures (said ∙ c.if-not-good.false) (omega arith)) ∙ l.invariant.2

pub loop-z-preserved : goal.loop-z-preserved
loop-z-preserved c =
    let f = c.find-q in
    let l = c.loop-z in
    -- what the two calls say of the field found: whether it is what is asked
    let said = good-is c.args.z l.j (slice l.i f.result c.args.s.now) c.wanted.result c.wanted.ensures c.good.result (rw (slice-part c.args.s.now l.i f.result f.ensures.low) at c.good.ensures) in
    (omega arith, omega arith, sym (field-on _ _ l.i _ f.result l.j (omega arith) f.ensures (said ∙ c.if-not-good.false) (omega arith)) ∙ l.invariant.2)

pub returns-then-not-good : goal.returns-then-not-good
returns-then-not-good c =
    let f = c.find-q in
    let l = c.loop-z in
    -- what the two calls say of the field found: whether it is what is asked
    let said = good-is c.args.z l.j (slice l.i f.result c.args.s.now) c.wanted.result c.wanted.ensures c.good.result (rw (slice-part c.args.s.now l.i f.result f.ensures.low) at c.good.ensures) in
    sym (field-wrong _ _ l.i _ f.result l.j (omega arith) f.ensures (said ∙ c.if-not-good.true)) ∙ l.invariant.2

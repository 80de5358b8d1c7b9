-- `rows::check_line` meets its contract: where the form is good the fields start two bytes on. Assumes nothing.
use Rattle.std.proofs.Common.{◌≡◌, true, sym, ◌∙◌, arith}
use Rattle.std.proofs.Math.Seq.{slice}
use Rattle.fields.specs.Cut.{pieces}
use Rattle.fields.specs.Cut.Laws.{slice-part}
use Rattle.rows.specs.Line.{form_of}
use Rattle.rows.specs.Line.Laws.{form-split}
use Rattle.rows.proofs.check_line.Goals as goal

pub check_fields-requires : goal.check_fields-requires
check_fields-requires c =
    let a = c.args in
    omega (arith, (form-split a.s.now a.a a.e a.z (omega arith) (omega arith) (rw (slice-part a.s.now a.a a.e c.requires.0) at (sym c.form.ensures ∙ c.if-not-form.false))).0)

pub returns : goal.returns
returns c =
    let a = c.args in
    let g : form_of a.z (pieces 32 (slice a.a a.e a.s.now)) ≡ true = rw (slice-part a.s.now a.a a.e c.requires.0) at (sym c.form.ensures ∙ c.if-not-form.false) in
    rw (g, (form-split a.s.now a.a a.e a.z (omega arith) (omega arith) g).1) c.check_fields.ensures

-- `real::inf_norm` meets its contract. The invariant: no entry passed is NaN, and the norm so far is their largest. Assumes nothing.
use Rattle.std.specs.Prelude.{◌≡◌}
use Rattle.std.specs.Float.{nan}
use Rattle.std.proofs.Common.{sym, ap, ◌∙◌, arith, rules}
use Rattle.std.proofs.lemmas.List.{get_or-take}
use Rattle.real.specs.Real.{absolute, max_of}
use Rattle.real.specs.Real.Laws.{nan_is}
use Rattle.real.specs.Norm.Laws.{norm-begins, norm-turn, norm-ends, norm-nan}
use Rattle.real.proofs.inf_norm.Goals as goal

pub loop-x-init : goal.loop-x-init
loop-x-init c = (omega arith, norm-begins c.args.v.now)

pub returns-then-is_nan : goal.returns-then-is_nan
returns-then-is_nan c =
    let a = c.args in
    let here = get_or-take a.n a.v.now c.loop-x.x-index nan (search rules) in
    let h = rw here at (sym c.is_nan.ensures ∙ c.if-is_nan.true) in
    here ∙ nan_is _ h ∙ sym (norm-nan a.n a.v.now c.loop-x.x-index (search rules) h)

pub loop-x-preserved : goal.loop-x-preserved
loop-x-preserved c =
    let a = c.args in
    let here = get_or-take a.n a.v.now c.loop-x.x-index nan (search rules) in (
      search rules,
      norm-turn c.loop-x.x-index a.v.now c.loop-x.norm c.max-norm.result c.loop-x.invariant.1
          (rw here at (sym c.is_nan.ensures ∙ c.if-is_nan.false))
          (c.max-norm.ensures ∙ ap (max_of c.loop-x.norm) (c.abs.ensures ∙ ap absolute here)),
    )

pub returns : goal.returns
returns c =
    let e : c.loop-x.x-index ≡ c.args.n = search rules in
    norm-ends c.args.n c.args.v.now c.loop-x.norm (rw e at c.loop-x.invariant.1)

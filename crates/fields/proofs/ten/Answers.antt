-- `fields::ten` meets its contract: after i turns p is the i-th product, and the k-th is 10^k. Assumes nothing.
use Rattle.std.proofs.Common.{◌≡◌, ap, ◌∙◌, add-one, arith}
use Rattle.fields.specs.Powers.{product}
use Rattle.fields.specs.Powers.Laws.{product-first, product-next, product-double}
use Rattle.fields.proofs.ten.Goals as goal

pub loop-i-init : goal.loop-i-init
loop-i-init c = product-first

pub loop-i-preserved : goal.loop-i-preserved
loop-i-preserved c = rw (add-one, c.loop-i.invariant) (product-next c.loop-i._i)

pub returns : goal.returns
returns c =
    let k = c.args.k in
    let e : c.loop-i._i ≡ k = omega arith in
    c.loop-i.invariant ∙ ap product e ∙ product-double k (omega arith)

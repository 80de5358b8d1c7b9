-- `islands::join` meets its contract: the second `find` keeps the root that the first one found. Assumes nothing.
use native.Mathlib.Omega.{arith}
use mathlib.Core.Path.{sym, ◌∙◌}
use Rattle.islands.specs.Forest.Laws.{lifted, hung, unmoved}
use Rattle.islands.proofs.join.Goals as goal

pub find-rb-requires : goal.find-rb-requires
find-rb-requires c = let g = c.requires.2 in (omega arith, (g.0, g.1, (c.find-ra.ensures.1 g.0 g.1 g.2).1))

pub returns-then-ra-rb : goal.returns-then-ra-rb
returns-then-ra-rb c = λ rank root w.
    let f = c.find-ra.ensures.1 rank root w in
    let t = c.find-rb.ensures.1 rank root f.1 in (
      lifted rank root (root c.args.from) (root c.args.to),
      rw (f.0, t.0) (hung _ t.1 c.args.from c.args.to c.requires.0 c.requires.1 (λ e. c.if-ra-rb.true (f.0 ∙ e ∙ sym t.0))),
    )

pub returns-else-ra-rb : goal.returns-else-ra-rb
returns-else-ra-rb c = λ rank root w.
    let f = c.find-ra.ensures.1 rank root w in
    let t = c.find-rb.ensures.1 rank root f.1 in
    (rank, unmoved _ t.1 c.args.from c.args.to c.requires.0 c.requires.1 (sym f.0 ∙ c.if-ra-rb.false ∙ t.0))

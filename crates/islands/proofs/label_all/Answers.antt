-- `islands::label_all` meets its contract. The invariant: the roots are as they were, and the buses passed have their labels. Assumes nothing.
use native.Mathlib.Omega.{arith}
use mathlib.Core.Path.{◌≡◌, refl}
use Rattle.real.specs.Each.{each}
use Rattle.islands.specs.Islands.{is_first, label_by}
use Rattle.islands.specs.Islands.Laws.{tally-le, table-turn}
use Rattle.islands.proofs.Numbering.{none_yet, numbered-turn}
use Rattle.islands.proofs.label_all.Goals as goal

pub loop-bus-init : goal.loop-bus-init
unfolding each
loop-bus-init c = λ rank root w. (w, none_yet root, refl)

pub find-root-requires : goal.find-root-requires
find-root-requires c =
    let g = c.requires.1 in
    (omega arith, (g.0, g.1, (c.loop-bus.invariant g.0 g.1 g.2).0))

pub or_insert-requires : goal.or_insert-requires
or_insert-requires c =
    let g = c.requires.1 in
    (omega arith, omega (arith, (c.loop-bus.invariant g.0 g.1 g.2).1.upto, tally-le (is_first g.1) c.loop-bus.bus))

pub loop-bus-preserved : goal.loop-bus-preserved
loop-bus-preserved c = λ rank root w.
    let k = c.loop-bus.invariant rank root w in
    let f = c.find-root.ensures.1 rank root k.0 in
    let t = numbered-turn root c.loop-bus.bus c.loop-bus.labels k.1 (omega arith) (f.1.inside c.loop-bus.bus (omega arith)) _ _ f.0 c.or_insert.ensures.after in
    let e : c.or_insert.result ≡ label_by root c.loop-bus.bus = cc (t.1, c.or_insert.ensures.label) in
    (f.1, t.0, rw (e, k.2) (table-turn c.loop-bus.bus (label_by root) (omega arith)))

pub returns : goal.returns
returns c = λ rank root w.
    let e : c.loop-bus.bus ≡ c.args.n = omega arith in
    rw e at (c.loop-bus.invariant rank root w).2

-- `pf_ac::search` meets its contract: what is left from here gives what all starts give. Assumes nothing.
use Prim.Native.Nat.{◌-◌}
use mathlib.Core.Path.{◌≡◌, refl, sym, ◌∙◌}
use native.Mathlib.Omega.{arith}
use Rattle.newton.specs.Newton.Laws.{fuel}
use Rattle.pf_ac.proofs.Turns.{turns-begin, turns-on, turns-none, turns-end}
use Rattle.pf_ac.proofs.search.Goals as goal
use Rattle.pf_ac.proofs.search.Goals.{else-better, then-better, else-loop-i-test, then-loop-i-test+then-best}

pub loop-i-init : goal.loop-i-init
loop-i-init c = (omega arith, refl, turns-begin _ _ _ _ _ _ c.start_count-count.ensures.0 _ _ _ c.solve_qlim-best.ensures)

pub loop-i-preserved : goal.loop-i-preserved
loop-i-preserved c =
    let l = c.loop-i in (
      omega arith,
      c.solve_qlim-next.auto.w ∙ l.invariant.1,
      sym (turns-on _ _ _ _ _ _ _ _ _ c.if-best.false (λ e. omega (arith, l.invariant.0, e)) _ c.start_at-p.ensures _ _ c.solve_qlim-next.ensures _ c.better.ensures _ (elim c.if-better.branch [ then-better y ↦ rw y.if-better.true y.best-is | else-better y ↦ rw y.if-better.false y.best-is ]))
          ∙ (rw (fuel _ _ c.loop-i-test.true) at l.invariant.2),
    )

pub returns : goal.returns
returns c =
    let l = c.loop-i in
    let n = c.start_count-count in
    rw c.verdict-found.ensures
    (elim c.loop-i-test.branch [
      | else-loop-i-test y ↦ let e : n.result - l.i ≡ 0 = omega (arith, y.loop-i-test.false) in turns-none _ _ _ _ _ _ _ n.ensures.0 _ _ ∙ (rw e at l.invariant.2)
      | then-loop-i-test+then-best y ↦ turns-end _ _ _ _ _ _ _ _ _ _ y.if-best.true ∙ l.invariant.2
    ])

-- `injections::derivatives_at` meets its contract, by its two ways. Assumes nothing.
use mathlib.Core.Path.{sym, ◌∙◌}
use Rattle.injections.specs.Jacobian.Laws.{derivatives-on, derivatives-off}
use Rattle.injections.proofs.derivatives_at.Goals as goal

pub returns-then-row-col : goal.returns-then-row-col
returns-then-row-col c = c.on_diagonal.ensures ∙ sym (derivatives-on _ _ _ _ _ _ _ c.if-row-col.true)

pub returns : goal.returns
returns c = c.off_diagonal.ensures ∙ sym (derivatives-off _ _ _ _ _ _ _ c.if-row-col.false)

-- `injections::enter` meets its contract, by its ways. Assumes nothing.
use mathlib.Core.Path.{sym, ◌∙◌}
use Rattle.injections.specs.Jacobian.Laws.{entered-added, entered-no-row, entered-no-col}
use Rattle.injections.proofs.enter.Goals as goal
use Rattle.injections.proofs.enter.Goals.{else-row-lt-NONE-via-then-row-lt-NONE+else-col-lt-NONE, else-row-lt-NONE-via-else-row-lt-NONE}

pub returns-then-col-lt-NONE : goal.returns-then-col-lt-NONE
returns-then-col-lt-NONE c =
    c.add_entry.ensures ∙ sym (entered-added _ _ _ _ c.if-row-lt-NONE.true c.if-col-lt-NONE.true)

pub returns-else-row-lt-NONE : goal.returns-else-row-lt-NONE
returns-else-row-lt-NONE c =
    elim c.else-row-lt-NONE.branch [ else-row-lt-NONE-via-then-row-lt-NONE+else-col-lt-NONE w ↦ sym (entered-no-col _ _ _ _ w.if-col-lt-NONE.false) | else-row-lt-NONE-via-else-row-lt-NONE w ↦ sym (entered-no-row _ _ _ _ w.if-row-lt-NONE.false) ]

-- `network::in_ends` meets its contract: the row that the search tells, which is one of the column's, and its field. Assumes nothing.
use Rattle.std.proofs.Common.{sym, ◌∙◌, arith}
use Rattle.real.specs.First.Laws.{at-lowest}
use Rattle.network.specs.Missing.{in_ends}
use Rattle.network.specs.Missing.Laws.{ends_found}
use Rattle.network.proofs.in_ends.Goals as goal

pub returns-in_err-row : goal.returns-in_err-row
unfolding in_ends
returns-in_err-row c =
    rw (← ends_found c.args.n c.args.a.now c.args.b.now c.requires, ← c.first_missing_end.ensures, c.in_err-row.was) c.from_residual.ensures

pub offset_bounds-a-row : goal.offset_bounds-a-row
offset_bounds-a-row c =
    let w = at-lowest _ _ _ (sym (ends_found c.args.n c.args.a.now c.args.b.now c.requires) ∙ sym c.first_missing_end.ensures ∙ c.in_ok-row.was) in
    omega (arith, w.inside)

pub bounds-a-row : goal.bounds-a-row
bounds-a-row c =
    (at-lowest _ _ _ (sym (ends_found c.args.n c.args.a.now c.args.b.now c.requires) ∙ sym c.first_missing_end.ensures ∙ c.in_ok-row.was)).inside

pub returns : goal.returns
unfolding in_ends
returns c =
    rw (← ends_found c.args.n c.args.a.now c.args.b.now c.requires, ← c.first_missing_end.ensures, c.in_ok-row.was, c.first_field.ensures)

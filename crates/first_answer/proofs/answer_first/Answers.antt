-- `first_answer::answer_first` meets its contract: a reader's refusal is the answer; of a good text it is the solve of its rows. Assumes nothing.
use Rattle.std.specs.Prelude.{refl}
use Rattle.std.proofs.Common.{sym, subst, ap, ◌∙◌}
use Rattle.std.proofs.lemmas.Result.{err_from_is_err_and}
use Rattle.network.specs.Network.{network_of, first_rows, RoomFor}
use Rattle.outcome.specs.Outcome.{outs_lent}
use Rattle.tables.specs.Tables.{solve_of}
use Rattle.first_answer.proofs.Ways.{first-unread, first-few, first-room, first_read}
use Rattle.first_answer.proofs.answer_first.Goals as goal

pub returns-in_err-c-clause-answer : goal.returns-in_err-c-clause-answer
returns-in_err-c-clause-answer c =
    let p = err_from_is_err_and c.from_residual.result c.from_residual.ensures.1 in
    rw (p.1, p.2) (first-unread _ _ _ c.in_err-c.ensures.read _ refl _ _)

-- the tables that are solved are those that were read
pub first-requires : goal.first-requires
first-requires c =
    subst (RoomFor c.in_ok-c.c.rows)
    (sym (λ i. network_of (c.read.ensures i) (c.read-2.ensures i) (c.read-3.ensures i) (c.read-4.ensures i) (c.read-5.ensures i)))
    (first-room _ _ _ c.in_ok-c.ensures.read _ refl)

pub returns-clause-answer : goal.returns-clause-answer
returns-clause-answer c =
    let rows = c.in_ok-c.c.rows in
    let tables = c.first.ensures
    ∙ (λ i. first_rows rows (network_of (c.read.ensures i) (c.read-2.ensures i) (c.read-3.ensures i) (c.read-4.ensures i) (c.read-5.ensures i))) in
    first_read _ _ _ c.in_ok-c.ensures.read _ refl _ _ c.solve-outcome.result _ _
    (c.solve-outcome.ensures.answer ∙ ap (λ t. solve_of c.in_ok-c.c.start t (outs_lent c.args.out.now) c.args.w.now) tables)

pub returns-clause-few : goal.returns-clause-few
returns-clause-few c = first-few _ _ _ c.in_ok-c.ensures.read _ refl c.solve-outcome.result

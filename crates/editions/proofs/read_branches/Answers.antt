-- `editions::read_branches` meets its contract: a refusal leaves the columns as they were; a good text's sections lie where its trailer says, its rows
-- fit, and each table is written by its own call. Assumes nothing.
use Rattle.std.proofs.Common.{◌≡◌, refl, sym, ◌∙◌}
use Rattle.std.proofs.lemmas.Result.{err_from_is_err_and}
use Rattle.network.specs.Network.{buses_room, slacks_room, generators_room, row_counts}
use Rattle.network.specs.BranchTable.{BranchNetwork, branch_table_of, branch_network_of, branch_room_of}
use Rattle.network.specs.Columns.{branch_network_lent}
use Rattle.trailer.specs.declared.Edition.TheVariants.{Second}
use Rattle.fields.specs.Cut.Laws.{slice-part}
use Rattle.case_text.specs.Answer.Laws.{PlacedSecond, branches-placed, ends, fitting, branches-read-good, branches-read-refused}
use Rattle.editions.proofs.read_branches.Goals as goal
use Rattle.editions.proofs.read_branches.Goals.{After-judge, After-section_places-p}

-- ---- what is known on the way

abbrev old : After-judge → BranchNetwork
old c = branch_network_lent c.args.sources.now c.args.table.now

-- the room that is asked about is the columns'
room-is : (c : After-judge) → c.room-room.result ≡ branch_room_of (old c)
room-is c = c.room-room.ensures ∙ (λ i. row_counts (buses_room (old c).buses) (slacks_room (old c).slacks) (generators_room (old c).generators) (c.room.ensures i) 0)

found : (c : After-section_places-p) → PlacedSecond c.args.text.now (old (goal.at-After-section_places-p c).After-judge) c.section_places-p.result
found c =
    let j = (goal.at-After-section_places-p c).After-judge in
    branches-placed c.args.text.now c.room-room.result c.in_ok-contents.contents c.section_places-p.result (old j) (room-is j) (sym c.in_ok-contents.ensures) c.section_places-p.ensures

-- ---- the needs

pub returns-in_err-contents-clause-read : goal.returns-in_err-contents-clause-read
returns-in_err-contents-clause-read c =
    let j = (goal.at.returns-in_err-contents-clause-read c).After-judge in
    let p = err_from_is_err_and c.from_residual.result c.from_residual.ensures.1 in
    rw (p.1, p.2) (branches-read-refused c.args.text.now c.room-room.result _ (old j) (room-is j) c.in_err-contents.ensures (λ n. refl))

pub section_places-p-requires : goal.section_places-p-requires
section_places-p-requires c = (fitting Second c.args.text.now c.room-room.result _ (sym c.in_ok-contents.ensures)).accepted.least

pub fill_sources-requires-clause-places : goal.fill_sources-requires-clause-places
fill_sources-requires-clause-places c =
    let w = (found (goal.at.fill_sources-requires-clause-places c).After-section_places-p).shared in
    (w.br, w.rg, w.gl, (ends w).1)

pub fill_sources-requires-clause-room : goal.fill_sources-requires-clause-room
fill_sources-requires-clause-room c =
    let w = (found (goal.at.fill_sources-requires-clause-room c).After-section_places-p).shared in
    (w.bus_rows, w.slack_rows, w.generator_rows)

pub slice_bounds-fill_branches-count : goal.slice_bounds-fill_branches-count
slice_bounds-fill_branches-count c = (found (goal.at.slice_bounds-fill_branches-count c).After-section_places-p).shared.ly

pub slice_bounds-fill_branches-start : goal.slice_bounds-fill_branches-start
slice_bounds-fill_branches-start c = (found (goal.at.slice_bounds-fill_branches-start c).After-section_places-p).shared.ly

pub slice_bounds-fill_branches-end : goal.slice_bounds-fill_branches-end
slice_bounds-fill_branches-end c = (ends (found (goal.at.slice_bounds-fill_branches-end c).After-section_places-p).shared).2

pub fill_branches-requires : goal.fill_branches-requires
fill_branches-requires c =
    let w = found (goal.at.fill_branches-requires c).After-section_places-p in
    let p = c.section_places-p.result in
    rw (slice-part c.args.text.now p.lines p.triplets w.shared.ly) w.table.ends

pub slice_bounds-fill_values-count : goal.slice_bounds-fill_values-count
slice_bounds-fill_values-count c = (found (goal.at.slice_bounds-fill_values-count c).After-section_places-p).shared.ly

pub slice_bounds-fill_values-start : goal.slice_bounds-fill_values-start
slice_bounds-fill_values-start c = (found (goal.at.slice_bounds-fill_values-start c).After-section_places-p).shared.ly

pub slice_bounds-fill_values-end : goal.slice_bounds-fill_values-end
slice_bounds-fill_values-end c = (ends (found (goal.at.slice_bounds-fill_values-end c).After-section_places-p).shared).2

pub fill_values-requires : goal.fill_values-requires
fill_values-requires c =
    let w = found (goal.at.fill_values-requires c).After-section_places-p in
    let p = c.section_places-p.result in
    rw (slice-part c.args.text.now p.lines p.triplets w.shared.ly) w.table.values

pub returns-clause-read : goal.returns-clause-read
returns-clause-read c =
    let j = (goal.at.returns-clause-read c).After-judge in
    let w = (found (goal.at.returns-clause-read c).After-section_places-p).shared in
    let s = c.args.text.now in
    let p = c.section_places-p.result in
    let e = c.fill_sources.ensures.filled in
    let b = rw (slice-part s p.lines p.triplets w.ly) at c.fill_branches.ensures.filled in
    let v = rw (slice-part s p.lines p.triplets w.ly) at c.fill_values.ensures.filled in
    branches-read-good c.args.text.now c.room-room.result _ (old j) (room-is j) c.in_ok-contents.ensures c.in_ok-contents.contents c.section_places-p.result _ refl c.section_places-p.ensures
    (λ i. branch_network_of (e.0 i) (e.1 i) (e.2 i) (branch_table_of (b i) (v i)))

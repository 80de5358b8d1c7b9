-- `editions::read_triplets` meets its contract: a refusal leaves the columns as they were; a good text's sections lie where its trailer says, its rows
-- fit, and each table is written by its own call. Assumes nothing.
use Rattle.std.proofs.Common.{◌≡◌, refl, sym, ◌∙◌}
use Rattle.std.proofs.lemmas.Result.{err_from_is_err_and}
use Rattle.network.specs.Network.{Network, network_of, buses_room, slacks_room, generators_room, row_counts, room_of}
use Rattle.network.specs.Columns.{network_lent}
use Rattle.trailer.specs.declared.Edition.TheVariants.{First}
use Rattle.fields.specs.Cut.Laws.{slice-part}
use Rattle.case_text.specs.Answer.Laws.{PlacedFirst, placed, ends, fitting, read-good, read-refused}
use Rattle.editions.proofs.read_triplets.Goals as goal
use Rattle.editions.proofs.read_triplets.Goals.{After-judge, After-section_places-p}

-- ---- what is known on the way

abbrev old : After-judge → Network
old c = network_lent c.args.sources.now c.args.lines.now

-- the room that is asked about is the columns'
room-is : (c : After-judge) → c.room-room.result ≡ room_of (old c)
room-is c = c.room-room.ensures ∙ (λ i. row_counts (buses_room (old c).buses) (slacks_room (old c).slacks) (generators_room (old c).generators) (c.room.ensures i) (c.room-2.ensures i))

found : (c : After-section_places-p) → PlacedFirst c.args.text.now (old (goal.at-After-section_places-p c).After-judge) c.section_places-p.result
found c =
    let j = (goal.at-After-section_places-p c).After-judge in
    placed c.args.text.now c.room-room.result c.in_ok-contents.contents c.section_places-p.result (old j) (room-is j) (sym c.in_ok-contents.ensures) c.section_places-p.ensures

-- ---- the needs

pub returns-in_err-contents-clause-read : goal.returns-in_err-contents-clause-read
returns-in_err-contents-clause-read c =
    let j = (goal.at.returns-in_err-contents-clause-read c).After-judge in
    let p = err_from_is_err_and c.from_residual.result c.from_residual.ensures.1 in
    rw (p.1, p.2) (read-refused c.args.text.now c.room-room.result _ (old j) (room-is j) c.in_err-contents.ensures (λ n. refl))

pub section_places-p-requires : goal.section_places-p-requires
section_places-p-requires c = (fitting First c.args.text.now c.room-room.result _ (sym c.in_ok-contents.ensures)).accepted.least

pub fill_sources-requires-clause-places : goal.fill_sources-requires-clause-places
fill_sources-requires-clause-places c =
    let w = (found (goal.at.fill_sources-requires-clause-places c).After-section_places-p).shared in
    (w.br, w.rg, w.gl, (ends w).1)

pub fill_sources-requires-clause-room : goal.fill_sources-requires-clause-room
fill_sources-requires-clause-room c =
    let w = (found (goal.at.fill_sources-requires-clause-room c).After-section_places-p).shared in
    (w.bus_rows, w.slack_rows, w.generator_rows)

pub slice_bounds-fill_branches-count : goal.slice_bounds-fill_branches-count
slice_bounds-fill_branches-count c = (found (goal.at.slice_bounds-fill_branches-count c).After-section_places-p).shared.ly

pub slice_bounds-fill_branches-start : goal.slice_bounds-fill_branches-start
slice_bounds-fill_branches-start c = (found (goal.at.slice_bounds-fill_branches-start c).After-section_places-p).shared.ly

pub slice_bounds-fill_branches-end : goal.slice_bounds-fill_branches-end
slice_bounds-fill_branches-end c = (ends (found (goal.at.slice_bounds-fill_branches-end c).After-section_places-p).shared).2

pub fill_branches-requires : goal.fill_branches-requires
fill_branches-requires c =
    let w = found (goal.at.fill_branches-requires c).After-section_places-p in
    let p = c.section_places-p.result in
    rw (slice-part c.args.text.now p.lines p.triplets w.shared.ly) w.branches

pub slice_bounds-fill_triplets-count : goal.slice_bounds-fill_triplets-count
slice_bounds-fill_triplets-count c = (found (goal.at.slice_bounds-fill_triplets-count c).After-section_places-p).shared.yt

pub slice_bounds-fill_triplets-start : goal.slice_bounds-fill_triplets-start
slice_bounds-fill_triplets-start c = (found (goal.at.slice_bounds-fill_triplets-start c).After-section_places-p).shared.yt

pub slice_bounds-fill_triplets-end : goal.slice_bounds-fill_triplets-end
slice_bounds-fill_triplets-end c = (found (goal.at.slice_bounds-fill_triplets-end c).After-section_places-p).shared.end

pub fill_triplets-requires : goal.fill_triplets-requires
fill_triplets-requires c =
    let w = found (goal.at.fill_triplets-requires c).After-section_places-p in
    let p = c.section_places-p.result in
    rw (slice-part c.args.text.now p.triplets p.t w.shared.yt) w.triplets

pub returns-clause-read : goal.returns-clause-read
returns-clause-read c =
    let j = (goal.at.returns-clause-read c).After-judge in
    let w = (found (goal.at.returns-clause-read c).After-section_places-p).shared in
    let s = c.args.text.now in
    let p = c.section_places-p.result in
    let e = c.fill_sources.ensures.filled in
    let b = rw (slice-part s p.lines p.triplets w.ly) at c.fill_branches.ensures.filled in
    let v = rw (slice-part s p.triplets p.t w.yt) at c.fill_triplets.ensures.filled in
    read-good c.args.text.now c.room-room.result _ (old j) (room-is j) c.in_ok-contents.ensures c.in_ok-contents.contents c.section_places-p.result _ refl c.section_places-p.ensures
    (λ i. network_of (e.0 i) (e.1 i) (e.2 i) (b i) (v i))

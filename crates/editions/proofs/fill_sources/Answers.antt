-- `editions::fill_sources` meets its contract: each table is written by its own call, of its section's bytes. Assumes nothing.
use Rattle.fields.specs.Cut.Laws.{slice-part}
use Rattle.editions.proofs.fill_sources.Goals as goal

pub fill_buses-requires : goal.fill_buses-requires
fill_buses-requires c = let a = c.args in rw (slice-part a.text.now a.p.b a.p.r c.requires.places.0) c.requires.room.0

pub fill_slacks-requires : goal.fill_slacks-requires
fill_slacks-requires c = let a = c.args in rw (slice-part a.text.now a.p.r a.p.g c.requires.places.1) c.requires.room.1

pub fill_generators-requires : goal.fill_generators-requires
fill_generators-requires c = let a = c.args in rw (slice-part a.text.now a.p.g a.p.lines c.requires.places.2) c.requires.room.2

pub returns-clause-filled : goal.returns-clause-filled
returns-clause-filled c =
    let a = c.args in
    let s = a.text.now in
    let w = c.requires.places in
    (rw (slice-part s a.p.b a.p.r w.0) at c.fill_buses.ensures.filled, rw (slice-part s a.p.r a.p.g w.1) at c.fill_slacks.ensures.filled, rw (slice-part s a.p.g a.p.lines w.2) at c.fill_generators.ensures.filled)

-- Where the sections of an answered text lie, that its rows fit, and what the tables then are. Assumes nothing.
use Rattle.std.specs.Prelude.{◌≡◌, refl, true, List, ℕ, ◌≤◌, length, Ok, Err}
use Rattle.std.proofs.Math.Path.{sym, ap}
use Rattle.std.proofs.Common.{◌∙◌, ⊎_elim, le_refl, arith}
use Rattle.std.proofs.Math.Seq.{slice, length-sets}
use Rattle.real.specs.Tests.{decided, no-case}
use Rattle.network.specs.declared.Rows.{Rows}
use Rattle.network.specs.Network.{Buses, Slacks, Generators, Network, buses_room, slacks_room, generators_room, RoomBuses, RoomSlacks, RoomGenerators, RoomBranches, RoomTriplets, AtMost, room_of, fits_of}
use Rattle.network.specs.Network.Laws.{fits-at-most, room-buses, room-slacks, room-generators, room-branches, room-triplets}
use Rattle.network.specs.Checks.{sizes}
use Rattle.network.specs.BranchTable.{BranchNetwork, branch_room_of, RoomBranchTable}
use Rattle.network.specs.BranchTable.Laws.{room-branch-table}
use Rattle.fields.specs.Real.{allowed}
use Rattle.rows.specs.Asked.{size_of}
use Rattle.rows.proofs.Printed.{section-rows, section-most}
use Rattle.rows.specs.declared.Section.{Section}
use Rattle.columns.specs.Columns.{row_count}
use Rattle.trailer.specs.Trailer.{trailer_start, trailer_of, behind_g, last_of, section_start, section_end, bytes_of, places_of}
use Rattle.trailer.specs.Trailer.Laws.{within, starts-b, starts-r, starts-g, starts-behind-g, starts-last, g-meets}
use Rattle.trailer.specs.declared.Edition.{Edition}
use Rattle.trailer.specs.declared.Edition.TheVariants.{First, Second}
use Rattle.case_text.specs.Text.{Reading, part_by, part_of, triplet_part_of, checked_text}
use Rattle.case_text.specs.Text.Laws.{Accepted, accepted-has}
use Rattle.case_text.specs.Answer.{with_room, judged_of, filled_from, branches_from, tables_by, branch_tables_by, filled_of, branch_filled_of, read_result, paper_of, result_of}
use Rattle.case_text.specs.Answer.{read_first_by, read_first, read_second_by, read_second}
use Rattle.case_text.specs.declared.Contents.{Contents}
use Rattle.trailer.specs.declared.Places.{Places}
use Rattle.case_text.specs.declared.Refusal.{Refusal}

-- ---- a good answer: the text is accepted, and its rows fit

pub record Fitting (e : Edition) (s : List ℕ) (m : Rows) (c : Contents) : Type 0 where
  pub accepted : Accepted e s (trailer_start e s) c
  pub fits : fits_of c.rows m ≡ true

-- the text is good and its rows fit, where the answer is good
pub with_room_lem : (v : Reading) (m : Rows) (c : Contents) → with_room v m ≡ Ok c → (v ≡ Ok c) × (fits_of c.rows m ≡ true)
with_room_lem (Ok d) m c h =
    ⊎_elim
    (λ q. let g : ◌≡◌ {A = Reading} (Ok d) (Ok c) = rw q at h in let i : d ≡ c = cc in (g, rw i at q))
    (λ q. let g : ◌≡◌ {A = Reading} (Err Refusal.Room) (Ok c) = rw q at h in no-case cc)
    (decided (fits_of d.rows m))
with_room_lem (Err f) m c h = no-case cc

module _ (e : Edition) (s : List ℕ) where
  pub fitting : (m : Rows) (c : Contents) → judged_of e s m ≡ Ok c → Fitting e s m c
  fitting m c h = let k = with_room_lem (checked_text e s) m c h in record { accepted = accepted-has e s c k.0; fits = k.1 }

-- ---- the sections' places, and that each table's rows fit its columns

pub part-rows : (z : Section) (s : List ℕ) (t n : ℕ) → part_of z s t ≡ Ok n → n ≡ row_count (bytes_of z s t)
unfolding part_by
part-rows z s t n h = section-rows z (section_start z s t) (bytes_of z s t) n h

part-most : (z : Section) (s : List ℕ) (t n : ℕ) → part_of z s t ≡ Ok n → n ≤ size_of z
unfolding part_by
part-most z s t n h = section-most z (section_start z s t) (bytes_of z s t) n h

branches-most : (e : Edition) (s : List ℕ) (t n : ℕ) → part_of (behind_g e) s t ≡ Ok n → n ≤ 64
branches-most First s t n h = part-most Section.L s t n h
branches-most Second s t n h = part-most Section.K s t n h

triplets-most : (e : Edition) (s : List ℕ) (t n : ℕ) → triplet_part_of e s t ≡ Ok n → n ≤ 256
triplets-most First s t n h = part-most Section.Y s t n h
triplets-most Second s t n h = let none : 0 ≡ n = cc in omega arith

-- the rows of an accepted text are within the sizes
pub rows-most : (e : Edition) (s : List ℕ) (t : ℕ) (c : Contents) → Accepted e s t c → AtMost c.rows sizes
rows-most e s t c a =
    let b = a.body in
    record {
      buses = part-most Section.B s t _ b.buses;
      slacks = part-most Section.R s t _ b.slacks;
      generators = part-most Section.G s t _ b.generators;
      branches = branches-most e s t _ b.branches;
      triplets = triplets-most e s t _ b.triplets;
    }

-- the sections lie one behind the other in the text, and the tables that both editions have a place for each of their rows
pub record Placed (s : List ℕ) (buses : Buses) (slacks : Slacks) (generators : Generators) (p : Places) : Type 0 where
  pub br : p.b ≤ p.r
  pub rg : p.r ≤ p.g
  pub gl : p.g ≤ p.lines
  pub ly : p.lines ≤ p.triplets
  pub yt : p.triplets ≤ p.t
  pub end : p.t ≤ length s
  pub bus_rows : RoomBuses (row_count (slice p.b p.r s)) buses
  pub slack_rows : RoomSlacks (row_count (slice p.r p.g s)) slacks
  pub generator_rows : RoomGenerators (row_count (slice p.g p.lines s)) generators

-- so have those of one edition alone
pub record PlacedFirst (s : List ℕ) (old : Network) (p : Places) : Type 0 where
  pub shared : Placed s old.buses old.slacks old.generators p
  pub branches : RoomBranches (row_count (slice p.lines p.triplets s)) old.branches
  pub triplets : RoomTriplets (row_count (slice p.triplets p.t s)) old.triplets

pub record PlacedSecond (s : List ℕ) (old : BranchNetwork) (p : Places) : Type 0 where
  pub shared : Placed s old.buses old.slacks old.generators p
  pub table : RoomBranchTable (row_count (slice p.lines p.triplets s)) old.table

-- the section behind G is the last one, or it ends where the last one starts
lines_end : (e : Edition) (s : List ℕ) (t : ℕ) → trailer_of e s t ≡ true → section_end (behind_g e) s t ≤ section_end (last_of e) s t
lines_end First s t h = (within First s t h Section.Y (starts-last First)).ordered
lines_end Second s t h = le_refl (section_end Section.K s t)

-- a part's rows are counted, so room for what is counted is room for them
room-rows : (z : Section) (s : List ℕ) (t n k : ℕ) → part_of z s t ≡ Ok n → n ≤ k → row_count (slice (section_start z s t) (section_end z s t) s) ≤ k
unfolding bytes_of
room-rows z s t n k h m = rw (← part-rows z s t n h) m

module _ (e : Edition) (s : List ℕ) (m : Rows) (c : Contents) (f : Fitting e s m c) where
  shared_at : (b : Buses) (r : Slacks) (g : Generators) → m.buses ≡ buses_room b → m.slacks ≡ slacks_room r → m.generators ≡ generators_room g
      → Placed s b r g (places_of e s (trailer_start e s))
  shared_at b r g eb er eg =
      let t = trailer_start e s in
      let a = f.accepted in
      let w = within e s t a.trailer in
      let fit = fits-at-most c.rows m f.fits in
      record {
        br = (w Section.B (starts-b e)).ordered;
        rg = (w Section.R (starts-r e)).ordered;
        gl = rw (← g-meets e s t) (w Section.G (starts-g e)).ordered;
        ly = (w (behind_g e) (starts-behind-g e)).ordered;
        yt = lines_end e s t a.trailer;
        end = omega (arith, (w (last_of e) (starts-last e)).inside, a.least);
        bus_rows = room-buses _ b (room-rows Section.B s t _ _ a.body.buses (rw (← eb) fit.buses));
        slack_rows = room-slacks _ r (room-rows Section.R s t _ _ a.body.slacks (rw (← er) fit.slacks));
        generator_rows = room-generators _ g (rw (← g-meets e s t) (room-rows Section.G s t _ _ a.body.generators (rw (← eg) fit.generators)));
      }

module _ (s : List ℕ) (m : Rows) (c : Contents) (p : Places) where
  pub placed : (old : Network) → m ≡ room_of old → judged_of First s m ≡ Ok c → p ≡ places_of First s (trailer_start First s) → PlacedFirst s old p
  placed old r h q =
      let t = trailer_start First s in
      let f = fitting First s m c h in
      let fit = rw r at (fits-at-most c.rows m f.fits) in
      rw q (record {
        shared = shared_at First s m c f old.buses old.slacks old.generators (λ i. (r i).buses) (λ i. (r i).slacks) (λ i. (r i).generators);
        branches = room-branches _ old.branches (room-rows Section.L s t _ _ f.accepted.body.branches fit.branches);
        triplets = room-triplets _ old.triplets (room-rows Section.Y s t _ _ f.accepted.body.triplets fit.triplets);
      })

  pub branches-placed : (old : BranchNetwork) → m ≡ branch_room_of old → judged_of Second s m ≡ Ok c → p ≡ places_of Second s (trailer_start Second s)
      → PlacedSecond s old p
  branches-placed old r h q =
      let t = trailer_start Second s in
      let f = fitting Second s m c h in
      let fit = rw r at (fits-at-most c.rows m f.fits) in
      rw q (record {
        shared = shared_at Second s m c f old.buses old.slacks old.generators (λ i. (r i).buses) (λ i. (r i).slacks) (λ i. (r i).generators);
        table = room-branch-table _ old.table (room-rows Section.K s t _ _ f.accepted.body.branches fit.branches);
      })

pub ends : {s : List ℕ} {b : Buses} {r : Slacks} {g : Generators} {p : Places} → Placed s b r g p → (p.r ≤ length s) × (p.lines ≤ length s) × (p.triplets ≤ length s)
ends w = (omega (arith, w.rg, w.gl, w.ly, w.yt, w.end), omega (arith, w.ly, w.yt, w.end), omega (arith, w.yt, w.end))

-- ---- the tables

-- as `filled_of` and `branch_filled_of`, of the places
abbrev pub filled_by : List ℕ → Places → Network → Network
filled_by s p old =
    filled_from allowed (slice p.b p.r s) (slice p.r p.g s) (slice p.g p.lines s) (slice p.lines p.triplets s) (slice p.triplets p.t s) old

abbrev pub branch_filled_by : List ℕ → Places → BranchNetwork → BranchNetwork
branch_filled_by s p old = branches_from allowed (slice p.b p.r s) (slice p.r p.g s) (slice p.g p.lines s) (slice p.lines p.triplets s) old

filled_at : (s : List ℕ) (t : ℕ) (old : Network) → filled_of s t old ≡ filled_by s (places_of First s t) old
unfolding tables_by bytes_of
filled_at s t old = refl

branch-filled-at : (s : List ℕ) (t : ℕ) (old : BranchNetwork) → branch_filled_of s t old ≡ branch_filled_by s (places_of Second s t) old
unfolding branch_tables_by bytes_of
branch-filled-at s t old = refl

-- reading keeps the length of every column
pub filled-room : (s : List ℕ) (t : ℕ) (old : Network) → room_of (filled_of s t old) ≡ room_of old
unfolding tables_by
filled-room s t old = simp length-sets

pub branch-filled-room : (s : List ℕ) (t : ℕ) (old : BranchNetwork) → branch_room_of (branch_filled_of s t old) ≡ branch_room_of old
unfolding branch_tables_by
branch-filled-room s t old = simp length-sets

-- ---- the answer

module _ {T : Type 0} (e : Edition) (s : List ℕ) (m n : Rows) (v : Reading) (r : m ≡ n) (h : v ≡ judged_of e s m) (old : T) where
  judged : judged_of e s n ≡ v
  judged = ap (judged_of e s) (sym r) ∙ sym h

  result-good : (c : Contents) (new filled : T) → v ≡ Ok c → new ≡ filled → read_result (paper_of v) new ≡ result_of (judged_of e s n) filled old
  result-good c new filled g w = rw (judged, g, w)

  result-refused : (filled : T) → result_of v filled old ≡ read_result (paper_of v) old → read_result (paper_of v) old ≡ result_of (judged_of e s n) filled old
  result-refused filled k = rw judged (sym k)

module _ (s : List ℕ) (m : Rows) (v : Reading) where
  module _ (old : Network) (r : m ≡ room_of old) (h : v ≡ judged_of First s m) where
    pub read-good : (c : Contents) (p : Places) (new : Network) → v ≡ Ok c → p ≡ places_of First s (trailer_start First s) → new ≡ filled_by s p old
        → read_result (paper_of v) new ≡ read_first s old
    unfolding read_first_by
    read-good c p new g q w =
        result-good First s m (room_of old) v r h old c new _ g (w ∙ ap (λ (x : Places). filled_by s x old) q ∙ sym (filled_at s (trailer_start First s) old))

    pub read-refused : ((n : Network) → result_of v n old ≡ read_result (paper_of v) old) → read_result (paper_of v) old ≡ read_first s old
    unfolding read_first_by
    read-refused k = result-refused First s m (room_of old) v r h old _ (k _)

  module _ (old : BranchNetwork) (r : m ≡ branch_room_of old) (h : v ≡ judged_of Second s m) where
    pub branches-read-good : (c : Contents) (p : Places) (new : BranchNetwork) → v ≡ Ok c → p ≡ places_of Second s (trailer_start Second s)
        → new ≡ branch_filled_by s p old → read_result (paper_of v) new ≡ read_second s old
    unfolding read_second_by
    branches-read-good c p new g q w =
        result-good Second s m (branch_room_of old) v r h old c new _ g (w ∙ ap (λ (x : Places). branch_filled_by s x old) q ∙ sym (branch-filled-at s (trailer_start Second s) old))

    pub branches-read-refused : ((n : BranchNetwork) → result_of v n old ≡ read_result (paper_of v) old) → read_result (paper_of v) old ≡ read_second s old
    unfolding read_second_by
    branches-read-refused k = result-refused Second s m (branch_room_of old) v r h old _ (k _)

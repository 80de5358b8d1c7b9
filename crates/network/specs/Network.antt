-- The tables of a case, one record for each, whose columns are the fields of 01's line of that table, and one record of them all. The reader fills
-- them and the solve works on them; which start is asked for stands beside them.
pub mod Laws
use Rattle.std.specs.Prelude.{ℕ, ◌≤◌, min, Bool, List, leb, length, take, Float}
use Rattle.real.specs.Tests.{both}
use Rattle.network.specs.declared.Rows.{Rows}

-- `B kind vm_set pd qd pg qg vm_case va_case`
pub record Buses : Type 0 where
  pub kind : List ℕ
  pub vm_set : List Float
  pub pd : List Float
  pub qd : List Float
  pub pg : List Float
  pub qg : List Float
  pub vm_case : List Float
  pub va_case : List Float

-- `R bus angle`
pub record Slacks : Type 0 where
  pub bus : List ℕ
  pub angle : List Float

-- `G bus qmin qmax`
pub record Generators : Type 0 where
  pub bus : List ℕ
  pub qmin : List Float
  pub qmax : List Float

-- `L from to`
pub record Branches : Type 0 where
  pub from : List ℕ
  pub to : List ℕ

-- `Y row col re im`: an entry re + i im of the admittance matrix
pub record Triplets : Type 0 where
  pub row : List ℕ
  pub col : List ℕ
  pub re : List Float
  pub im : List Float

pub record Network : Type 0 where
  pub buses : Buses
  pub slacks : Slacks
  pub generators : Generators
  pub branches : Branches
  pub triplets : Triplets

-- ---- a table of its columns

abbrev pub buses_of : List ℕ → List Float → List Float → List Float → List Float → List Float → List Float → List Float → Buses
buses_of kind vm_set pd qd pg qg vm_case va_case =
    record { kind = kind; vm_set = vm_set; pd = pd; qd = qd; pg = pg; qg = qg; vm_case = vm_case; va_case = va_case }

abbrev pub slacks_of : List ℕ → List Float → Slacks
slacks_of bus angle = record { bus = bus; angle = angle }

abbrev pub generators_of : List ℕ → List Float → List Float → Generators
generators_of bus qmin qmax = record { bus = bus; qmin = qmin; qmax = qmax }

abbrev pub branches_of : List ℕ → List ℕ → Branches
branches_of from to = record { from = from; to = to }

abbrev pub triplets_of : List ℕ → List ℕ → List Float → List Float → Triplets
triplets_of row col re im = record { row = row; col = col; re = re; im = im }

abbrev pub network_of : Buses → Slacks → Generators → Branches → Triplets → Network
network_of buses slacks generators branches triplets =
    record { buses = buses; slacks = slacks; generators = generators; branches = branches; triplets = triplets }

-- ---- how many rows

-- how many buses there are
abbrev pub bus_count : Network → ℕ
bus_count t = length t.buses.kind

abbrev pub row_counts : ℕ → ℕ → ℕ → ℕ → ℕ → Rows
row_counts buses slacks generators branches triplets =
    record { buses = buses; slacks = slacks; generators = generators; branches = branches; triplets = triplets }

-- how many rows a table has room for: the places of its shortest column
abbrev pub buses_room : Buses → ℕ
buses_room t =
    min (min (min (length t.kind) (length t.vm_set)) (min (length t.pd) (length t.qd)))
    (min (min (length t.pg) (length t.qg)) (min (length t.vm_case) (length t.va_case)))

abbrev pub slacks_room : Slacks → ℕ
slacks_room t = min (length t.bus) (length t.angle)

abbrev pub generators_room : Generators → ℕ
generators_room t = min (min (length t.bus) (length t.qmin)) (length t.qmax)

abbrev pub branches_room : Branches → ℕ
branches_room t = min (length t.from) (length t.to)

abbrev pub triplets_room : Triplets → ℕ
triplets_room t = min (min (length t.row) (length t.col)) (min (length t.re) (length t.im))

abbrev pub room_of : Network → Rows
room_of t = row_counts (buses_room t.buses) (slacks_room t.slacks) (generators_room t.generators) (branches_room t.branches) (triplets_room t.triplets)

-- a place for each of n rows in every column of a table
pub record RoomBuses (n : ℕ) (t : Buses) : Type 0 where
  pub kind : n ≤ length t.kind
  pub vm_set : n ≤ length t.vm_set
  pub pd : n ≤ length t.pd
  pub qd : n ≤ length t.qd
  pub pg : n ≤ length t.pg
  pub qg : n ≤ length t.qg
  pub vm_case : n ≤ length t.vm_case
  pub va_case : n ≤ length t.va_case

pub record RoomSlacks (n : ℕ) (t : Slacks) : Type 0 where
  pub bus : n ≤ length t.bus
  pub angle : n ≤ length t.angle

pub record RoomGenerators (n : ℕ) (t : Generators) : Type 0 where
  pub bus : n ≤ length t.bus
  pub qmin : n ≤ length t.qmin
  pub qmax : n ≤ length t.qmax

pub record RoomBranches (n : ℕ) (t : Branches) : Type 0 where
  pub from : n ≤ length t.from
  pub to : n ≤ length t.to

pub record RoomTriplets (n : ℕ) (t : Triplets) : Type 0 where
  pub row : n ≤ length t.row
  pub col : n ≤ length t.col
  pub re : n ≤ length t.re
  pub im : n ≤ length t.im

pub record RoomFor (r : Rows) (t : Network) : Type 0 where
  pub buses : RoomBuses r.buses t.buses
  pub slacks : RoomSlacks r.slacks t.slacks
  pub generators : RoomGenerators r.generators t.generators
  pub branches : RoomBranches r.branches t.branches
  pub triplets : RoomTriplets r.triplets t.triplets

-- each table's rows are at most as many as another count says
pub record AtMost (r m : Rows) : Type 0 where
  pub buses : r.buses ≤ m.buses
  pub slacks : r.slacks ≤ m.slacks
  pub generators : r.generators ≤ m.generators
  pub branches : r.branches ≤ m.branches
  pub triplets : r.triplets ≤ m.triplets

abbrev pub fits_of : Rows → Rows → Bool
fits_of r m =
    both (leb r.buses m.buses)
    (both (leb r.slacks m.slacks)
    (both (leb r.generators m.generators) (both (leb r.branches m.branches) (leb r.triplets m.triplets))))

-- ---- the first rows

-- the first n rows of a table, and of each table as many as are told
abbrev pub first_buses : ℕ → Buses → Buses
first_buses n t =
    buses_of (take n t.kind) (take n t.vm_set) (take n t.pd) (take n t.qd) (take n t.pg) (take n t.qg) (take n t.vm_case) (take n t.va_case)

abbrev pub first_slacks : ℕ → Slacks → Slacks
first_slacks n t = slacks_of (take n t.bus) (take n t.angle)

abbrev pub first_generators : ℕ → Generators → Generators
first_generators n t = generators_of (take n t.bus) (take n t.qmin) (take n t.qmax)

abbrev pub first_branches : ℕ → Branches → Branches
first_branches n t = branches_of (take n t.from) (take n t.to)

abbrev pub first_triplets : ℕ → Triplets → Triplets
first_triplets n t = triplets_of (take n t.row) (take n t.col) (take n t.re) (take n t.im)

abbrev pub first_rows : Rows → Network → Network
first_rows r t =
    network_of (first_buses r.buses t.buses) (first_slacks r.slacks t.slacks) (first_generators r.generators t.generators)
    (first_branches r.branches t.branches) (first_triplets r.triplets t.triplets)

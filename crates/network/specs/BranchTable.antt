-- 02, Ask 3: `K from to g b g_fr b_fr g_to b_to tap shift sw`, the table of branches, and the tables of a second-edition case.
pub mod Laws
use Rattle.std.specs.Prelude.{ℕ, ◌≤◌, min, ◌≡◌, Bool, List, [], ◌∷◌, length, take, Float}
use Rattle.network.specs.declared.Rows.{Rows}
use Rattle.network.specs.Network.{Buses, Slacks, Generators, Branches, Triplets, Network, buses_room, slacks_room, generators_room, branches_room, row_counts, triplets_of, network_of}
use Rattle.network.specs.Network.{first_buses, first_slacks, first_generators, first_branches, RoomBuses, RoomSlacks, RoomGenerators, RoomBranches}
use Rattle.network.specs.Checks.{same}

-- the nine numbers of each branch
pub record Values : Type 0 where
  pub g : List Float
  pub b : List Float
  pub g_fr : List Float
  pub b_fr : List Float
  pub g_to : List Float
  pub b_to : List Float
  pub tap : List Float
  pub shift : List Float
  pub sw : List Float

-- the eleven columns: the ends, as an `L` line has them, and the numbers
pub record BranchTable : Type 0 where
  pub ends : Branches
  pub values : Values

-- "in place of the L and Y sections a K section"
pub record BranchNetwork : Type 0 where
  pub buses : Buses
  pub slacks : Slacks
  pub generators : Generators
  pub table : BranchTable

abbrev pub values_of : List Float → List Float → List Float → List Float → List Float → List Float → List Float → List Float → List Float → Values
values_of g b g_fr b_fr g_to b_to tap shift sw =
    record { g = g; b = b; g_fr = g_fr; b_fr = b_fr; g_to = g_to; b_to = b_to; tap = tap; shift = shift; sw = sw }

abbrev pub branch_table_of : Branches → Values → BranchTable
branch_table_of ends values = record { ends = ends; values = values }

abbrev pub branch_network_of : Buses → Slacks → Generators → BranchTable → BranchNetwork
branch_network_of buses slacks generators table = record { buses = buses; slacks = slacks; generators = generators; table = table }

-- the same case with these triplets, as the first edition has it: all branches join buses, off or not
abbrev pub with_triplets : BranchNetwork → Triplets → Network
with_triplets t y = network_of t.buses t.slacks t.generators t.table.ends y

abbrev pub no_triplets : Triplets
no_triplets = triplets_of [] [] [] []

-- ---- refusal 7: columns of one table that differ in length

unfoldable pub values_counted : ℕ → Values → Bool
values_counted n v =
    same n
    (length v.g ∷ length v.b ∷ length v.g_fr ∷ length v.b_fr ∷ length v.g_to ∷ length v.b_to ∷ length v.tap ∷ length v.shift ∷ length v.sw ∷ [])

-- each column has n numbers
pub record SizedValues (n : ℕ) (v : Values) : Type 0 where
  pub g : length v.g ≡ n
  pub b : length v.b ≡ n
  pub g_fr : length v.g_fr ≡ n
  pub b_fr : length v.b_fr ≡ n
  pub g_to : length v.g_to ≡ n
  pub b_to : length v.b_to ≡ n
  pub tap : length v.tap ≡ n
  pub shift : length v.shift ≡ n
  pub sw : length v.sw ≡ n

-- ---- how many rows there is room for

abbrev pub values_room : Values → ℕ
values_room v =
    min (min (min (min (length v.g) (length v.b)) (min (length v.g_fr) (length v.b_fr)))
    (min (min (length v.g_to) (length v.b_to)) (min (length v.tap) (length v.shift))))
    (length v.sw)

abbrev pub branch_table_room : BranchTable → ℕ
branch_table_room t = min (branches_room t.ends) (values_room t.values)

-- of every table; a second-edition case has no triplets
abbrev pub branch_room_of : BranchNetwork → Rows
branch_room_of t = row_counts (buses_room t.buses) (slacks_room t.slacks) (generators_room t.generators) (branch_table_room t.table) 0

pub record RoomValues (n : ℕ) (v : Values) : Type 0 where
  pub g : n ≤ length v.g
  pub b : n ≤ length v.b
  pub g_fr : n ≤ length v.g_fr
  pub b_fr : n ≤ length v.b_fr
  pub g_to : n ≤ length v.g_to
  pub b_to : n ≤ length v.b_to
  pub tap : n ≤ length v.tap
  pub shift : n ≤ length v.shift
  pub sw : n ≤ length v.sw

pub record RoomBranchTable (n : ℕ) (t : BranchTable) : Type 0 where
  pub ends : RoomBranches n t.ends
  pub values : RoomValues n t.values

pub record RoomForBranches (r : Rows) (t : BranchNetwork) : Type 0 where
  pub buses : RoomBuses r.buses t.buses
  pub slacks : RoomSlacks r.slacks t.slacks
  pub generators : RoomGenerators r.generators t.generators
  pub table : RoomBranchTable r.branches t.table

-- ---- the first rows

abbrev pub first_values : ℕ → Values → Values
first_values n v =
    values_of (take n v.g) (take n v.b) (take n v.g_fr) (take n v.b_fr) (take n v.g_to) (take n v.b_to) (take n v.tap) (take n v.shift)
    (take n v.sw)

abbrev pub first_branch_table : ℕ → BranchTable → BranchTable
first_branch_table n t = branch_table_of (first_branches n t.ends) (first_values n t.values)

abbrev pub first_branch_rows : Rows → BranchNetwork → BranchNetwork
first_branch_rows r t =
    branch_network_of (first_buses r.buses t.buses) (first_slacks r.slacks t.slacks) (first_generators r.generators t.generators)
    (first_branch_table r.branches t.table)

-- What 01 asks of the tables, table by table: refusal 7, and what it and the refusals of Missing leave.
pub mod Laws
use Rattle.std.specs.Prelude.{ℕ, ◌≤◌, Bool, true, List, [], ◌∷◌, ◌≡◌, leb, eqb, length}
use Rattle.real.specs.Tests.{both}
use Rattle.network.specs.declared.Rows.{Rows}
use Rattle.network.specs.Below.{Below}
use Rattle.network.specs.Network.{Buses, Slacks, Generators, Branches, Triplets, Network, bus_count, row_counts}

-- "Buses 0 to 32, slack rows 0 to 32, generators 0 to 32, branches 0 to 64, triplets 0 to 256"
abbrev pub sizes : Rows
sizes = row_counts 32 32 32 64 256

-- ---- as tests

-- each of these lengths is n
abbrev pub same : ℕ → List ℕ → Bool
same n [] = true
same n (k ∷ ks) = both (eqb k n) (same n ks)

-- no "count over its size", no "input columns of one table differ in length"
abbrev pub buses_counted : Buses → Bool
buses_counted t =
    let n = length t.kind in
    both (leb n 32)
    (same n (length t.vm_set ∷ length t.pd ∷ length t.qd ∷ length t.pg ∷ length t.qg ∷ length t.vm_case ∷ length t.va_case ∷ []))

abbrev pub slacks_counted : Slacks → Bool
slacks_counted t = both (leb (length t.bus) 32) (eqb (length t.angle) (length t.bus))

abbrev pub generators_counted : Generators → Bool
generators_counted t = let n = length t.bus in both (leb n 32) (same n (length t.qmin ∷ length t.qmax ∷ []))

abbrev pub branches_counted : Branches → Bool
branches_counted t = both (leb (length t.from) 64) (eqb (length t.to) (length t.from))

abbrev pub triplets_counted : Triplets → Bool
triplets_counted t = let n = length t.row in both (leb n 256) (same n (length t.col ∷ length t.re ∷ length t.im ∷ []))

unfoldable pub counted : Network → Bool
counted t =
    both (buses_counted t.buses)
    (both (slacks_counted t.slacks)
    (both (generators_counted t.generators)
    (both (branches_counted t.branches) (triplets_counted t.triplets))))

-- ---- as facts

pub record SizedBuses (t : Buses) : Type 0 where
  pub few : length t.kind ≤ 32
  pub vm_set : length t.vm_set ≡ length t.kind
  pub pd : length t.pd ≡ length t.kind
  pub qd : length t.qd ≡ length t.kind
  pub pg : length t.pg ≡ length t.kind
  pub qg : length t.qg ≡ length t.kind
  pub vm_case : length t.vm_case ≡ length t.kind
  pub va_case : length t.va_case ≡ length t.kind

pub record SizedSlacks (t : Slacks) : Type 0 where
  pub few : length t.bus ≤ 32
  pub angle : length t.angle ≡ length t.bus

pub record SizedGenerators (t : Generators) : Type 0 where
  pub few : length t.bus ≤ 32
  pub qmin : length t.qmin ≡ length t.bus
  pub qmax : length t.qmax ≡ length t.bus

pub record SizedBranches (t : Branches) : Type 0 where
  pub few : length t.from ≤ 64
  pub to : length t.to ≡ length t.from

pub record SizedTriplets (t : Triplets) : Type 0 where
  pub few : length t.row ≤ 256
  pub col : length t.col ≡ length t.row
  pub re : length t.re ≡ length t.row
  pub im : length t.im ≡ length t.row

-- "well-indexed tables within 01's limits": sizes, columns of one length, bus numbers below the bus count
pub record WellIndexed (t : Network) : Type 0 where
  pub buses : SizedBuses t.buses
  pub slacks : SizedSlacks t.slacks
  pub generators : SizedGenerators t.generators
  pub branches : SizedBranches t.branches
  pub triplets : SizedTriplets t.triplets
  pub slack_bus : Below (bus_count t) t.slacks.bus
  pub generator_bus : Below (bus_count t) t.generators.bus
  pub branch_from : Below (bus_count t) t.branches.from
  pub branch_to : Below (bus_count t) t.branches.to
  pub triplet_row : Below (bus_count t) t.triplets.row
  pub triplet_col : Below (bus_count t) t.triplets.col

-- What lent columns hold, as the records of Network and BranchTable: of columns lent for reading, and of those lent for writing; and that columns lent for
-- writing are still those that were lent.
use Rattle.std.specs.Prelude.{◌≡◌, List, length}
use Rattle.std.specs.Borrow.{MutBor}
use Rattle.network.specs.Network.{Buses, Slacks, Generators, Branches, Triplets, Network, buses_of, slacks_of, generators_of, branches_of, triplets_of, network_of}
use Rattle.network.specs.BranchTable.{Values, BranchTable, BranchNetwork, values_of, branch_table_of, branch_network_of}
use Rattle.network.specs.declared.BusColumns.{BusColumns}
use Rattle.network.specs.declared.BusColumnsMut.{BusColumnsMut}
use Rattle.network.specs.declared.SlackColumns.{SlackColumns}
use Rattle.network.specs.declared.SlackColumnsMut.{SlackColumnsMut}
use Rattle.network.specs.declared.GeneratorColumns.{GeneratorColumns}
use Rattle.network.specs.declared.GeneratorColumnsMut.{GeneratorColumnsMut}
use Rattle.network.specs.declared.BranchColumns.{BranchColumns}
use Rattle.network.specs.declared.BranchColumnsMut.{BranchColumnsMut}
use Rattle.network.specs.declared.TripletColumns.{TripletColumns}
use Rattle.network.specs.declared.TripletColumnsMut.{TripletColumnsMut}
use Rattle.network.specs.declared.ValueColumns.{ValueColumns}
use Rattle.network.specs.declared.ValueColumnsMut.{ValueColumnsMut}
use Rattle.network.specs.declared.Tables.{Tables}
use Rattle.network.specs.declared.BranchTables.{BranchTables}
use Rattle.network.specs.declared.SourcesMut.{SourcesMut}
use Rattle.network.specs.declared.LinesMut.{LinesMut}
use Rattle.network.specs.declared.BranchTableMut.{BranchTableMut}

-- ---- lent for reading

abbrev pub buses_in : BusColumns → Buses
buses_in c = buses_of c.kind.now c.vm_set.now c.pd.now c.qd.now c.pg.now c.qg.now c.vm_case.now c.va_case.now

abbrev pub slacks_in : SlackColumns → Slacks
slacks_in c = slacks_of c.bus.now c.angle.now

abbrev pub generators_in : GeneratorColumns → Generators
generators_in c = generators_of c.bus.now c.qmin.now c.qmax.now

abbrev pub branches_in : BranchColumns → Branches
branches_in c = branches_of c.from.now c.to.now

abbrev pub triplets_in : TripletColumns → Triplets
triplets_in c = triplets_of c.row.now c.col.now c.re.now c.im.now

abbrev pub values_in : ValueColumns → Values
values_in c = values_of c.g.now c.b.now c.g_fr.now c.b_fr.now c.g_to.now c.b_to.now c.tap.now c.shift.now c.sw.now

abbrev pub network_in : Tables → Network
network_in t = network_of (buses_in t.buses) (slacks_in t.slacks) (generators_in t.generators) (branches_in t.branches) (triplets_in t.triplets)

abbrev pub branch_table_in : BranchTables → BranchTable
branch_table_in t = branch_table_of (branches_in t.ends) (values_in t.values)

abbrev pub branch_network_in : BranchTables → BranchNetwork
branch_network_in t = branch_network_of (buses_in t.buses) (slacks_in t.slacks) (generators_in t.generators) (branch_table_in t)

-- ---- lent for writing

abbrev pub buses_lent : BusColumnsMut → Buses
buses_lent c = buses_of c.kind.now c.vm_set.now c.pd.now c.qd.now c.pg.now c.qg.now c.vm_case.now c.va_case.now

abbrev pub slacks_lent : SlackColumnsMut → Slacks
slacks_lent c = slacks_of c.bus.now c.angle.now

abbrev pub generators_lent : GeneratorColumnsMut → Generators
generators_lent c = generators_of c.bus.now c.qmin.now c.qmax.now

abbrev pub branches_lent : BranchColumnsMut → Branches
branches_lent c = branches_of c.from.now c.to.now

abbrev pub triplets_lent : TripletColumnsMut → Triplets
triplets_lent c = triplets_of c.row.now c.col.now c.re.now c.im.now

abbrev pub values_lent : ValueColumnsMut → Values
values_lent c = values_of c.g.now c.b.now c.g_fr.now c.b_fr.now c.g_to.now c.b_to.now c.tap.now c.shift.now c.sw.now

abbrev pub network_lent : SourcesMut → LinesMut → Network
network_lent s l = network_of (buses_lent s.buses) (slacks_lent s.slacks) (generators_lent s.generators) (branches_lent l.branches) (triplets_lent l.triplets)

abbrev pub branch_table_lent : BranchTableMut → BranchTable
branch_table_lent t = branch_table_of (branches_lent t.ends) (values_lent t.values)

abbrev pub branch_network_lent : SourcesMut → BranchTableMut → BranchNetwork
branch_network_lent s t = branch_network_of (buses_lent s.buses) (slacks_lent s.slacks) (generators_lent s.generators) (branch_table_lent t)

-- ---- the same columns, whatever they hold now

-- what is borrowed is the same, and as long as it was
abbrev pub Kept : {A : Type 0} → MutBor (List A) → MutBor (List A) → Type 0
Kept c d = (d.ghost_name ≡ c.ghost_name) × (length d.now ≡ length c.now)

pub record SameBuses (c d : BusColumnsMut) : Type 0 where
  pub kind : Kept c.kind d.kind
  pub vm_set : Kept c.vm_set d.vm_set
  pub pd : Kept c.pd d.pd
  pub qd : Kept c.qd d.qd
  pub pg : Kept c.pg d.pg
  pub qg : Kept c.qg d.qg
  pub vm_case : Kept c.vm_case d.vm_case
  pub va_case : Kept c.va_case d.va_case

pub record SameSlacks (c d : SlackColumnsMut) : Type 0 where
  pub bus : Kept c.bus d.bus
  pub angle : Kept c.angle d.angle

pub record SameGenerators (c d : GeneratorColumnsMut) : Type 0 where
  pub bus : Kept c.bus d.bus
  pub qmin : Kept c.qmin d.qmin
  pub qmax : Kept c.qmax d.qmax

pub record SameBranches (c d : BranchColumnsMut) : Type 0 where
  pub from : Kept c.from d.from
  pub to : Kept c.to d.to

pub record SameTriplets (c d : TripletColumnsMut) : Type 0 where
  pub row : Kept c.row d.row
  pub col : Kept c.col d.col
  pub re : Kept c.re d.re
  pub im : Kept c.im d.im

pub record SameValues (c d : ValueColumnsMut) : Type 0 where
  pub g : Kept c.g d.g
  pub b : Kept c.b d.b
  pub g_fr : Kept c.g_fr d.g_fr
  pub b_fr : Kept c.b_fr d.b_fr
  pub g_to : Kept c.g_to d.g_to
  pub b_to : Kept c.b_to d.b_to
  pub tap : Kept c.tap d.tap
  pub shift : Kept c.shift d.shift
  pub sw : Kept c.sw d.sw

pub record SameSources (s t : SourcesMut) : Type 0 where
  pub buses : SameBuses s.buses t.buses
  pub slacks : SameSlacks s.slacks t.slacks
  pub generators : SameGenerators s.generators t.generators

pub record SameLines (s t : LinesMut) : Type 0 where
  pub branches : SameBranches s.branches t.branches
  pub triplets : SameTriplets s.triplets t.triplets

pub record SameBranchTable (s t : BranchTableMut) : Type 0 where
  pub ends : SameBranches s.ends t.ends
  pub values : SameValues s.values t.values

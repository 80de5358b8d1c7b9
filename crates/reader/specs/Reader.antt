-- 02, Ask 3, of the reading call: what it answers, and what it leaves in the columns of both editions.
pub mod Laws
use Rattle.std.specs.Prelude.{ℕ, List}
use Rattle.network.specs.Network.{Network, network_of}
use Rattle.network.specs.BranchTable.{BranchTable, BranchNetwork, branch_network_of}
use Rattle.trailer.specs.Trailer.{edition_of}
use Rattle.trailer.specs.declared.Edition.{Edition}
use Rattle.trailer.specs.declared.Edition.TheVariants.{First, Second}
use Rattle.case_text.specs.Answer.{ReadResult, read_result, read_first, read_second}

-- the columns of both editions, of which they share the buses, the slack rows and the generators
pub record Columns : Type 0 where
  pub network : Network
  pub table : BranchTable

abbrev pub columns_of : Network → BranchTable → Columns
columns_of network table = record { network = network; table = table }

abbrev pub branches_in : Columns → BranchNetwork
branches_in o = branch_network_of o.network.buses o.network.slacks o.network.generators o.table

-- a reading of one edition leaves the other's own columns untouched
abbrev pub with_first : Columns → ReadResult Network → ReadResult Columns
with_first old (read_result p n) = read_result p (columns_of n old.table)

abbrev pub with_second : Columns → ReadResult BranchNetwork → ReadResult Columns
with_second old (read_result p n) =
    read_result p (columns_of (network_of n.buses n.slacks n.generators old.network.branches old.network.triplets) n.table)

-- a text is read by the rules of its own edition
abbrev pub read_as : Edition → List ℕ → Columns → ReadResult Columns
read_as First s old = with_first old (read_first s old.network)
read_as Second s old = with_second old (read_second s (branches_in old))

unfoldable pub read_of : List ℕ → Columns → ReadResult Columns
read_of s old = read_as (edition_of s) s old

-- The whole solve of a network from its start on (01, "The solver"): `ac_pf_with_start`.
pub mod Laws
pub mod Withheld
pub mod Pinned
pub mod Space
use Rattle.std.specs.Prelude.{ℕ, List, get_or, Float}
use Rattle.std.specs.Float.{nan}
use Rattle.real.specs.Literals.{nought}
use Rattle.network.specs.Network.{Network, bus_count}
use Rattle.layout.specs.declared.BusKind.{BusKind}
use Rattle.layout.specs.declared.Limits.{Limits}
use Rattle.layout.specs.declared.Point.{Point}
use Rattle.layout.specs.Table.{table}
use Rattle.layout.specs.Kinds.{kinds_of}
use Rattle.layout.specs.Limits.{limits_of}
use Rattle.starts.specs.declared.References.{References}
use Rattle.starts.specs.References.{references_of}
use Rattle.starts.specs.Starts.{flat_of}
use Rattle.qlim.specs.Rounds.{Study, study}
use Rattle.starts.specs.declared.AcStart.{AcStart}
use Rattle.pf_ac.specs.Search.{Searched, first_start, search_of}

-- ---- what the solve works on

-- the first n places of a column, in a table of 32
abbrev pub tabled : ℕ → List Float → List Float
tabled n l = table n nought (λ b. get_or l b nan)

abbrev pub kinds_for : Network → List BusKind
kinds_for t = kinds_of (bus_count t) t.buses.kind t.slacks.bus

abbrev pub limits_for : Network → Limits
limits_for t = limits_of t.generators.bus t.generators.qmin t.generators.qmax

abbrev pub study_for : Network → Study
study_for t =
    let b = t.buses in
    let n = bus_count t in
    study n t.triplets b.pd b.qd b.pg (tabled n b.qg) (limits_for t) (tabled n b.vm_set)

abbrev pub references_for : Network → References
references_for t = references_of (bus_count t) t.slacks.bus t.slacks.angle t.branches.from t.branches.to

abbrev pub flat_for : Network → Point
flat_for t = flat_of (bus_count t) t.buses.vm_set (references_for t)

abbrev pub first_for : AcStart → Network → Point
first_for start t = first_start start (bus_count t) t.buses.vm_set t.buses.vm_case t.buses.va_case (references_for t) (flat_for t)

-- the whole run, with the workspace that it leaves
unfoldable pub ac_pf_of : AcStart → Network → List Float → Searched
ac_pf_of start t w = search_of start (study_for t) (kinds_for t) (first_for start t) (flat_for t) w

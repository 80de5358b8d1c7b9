-- What stood in a lent workspace cannot show in the solve of a network. Assumes nothing.
use Rattle.std.specs.Prelude.{◌≤◌, List, Float}
use Rattle.network.specs.Network.{Network, bus_count}
use Rattle.newton.specs.Newton.Space.{Lent}
use Rattle.starts.specs.declared.AcStart.{AcStart}
use Rattle.pf_ac.specs.Search.Space.{AlikeSearched, search-space}
use Rattle.pf_ac.specs.WithStart.{kinds_for, study_for, flat_for, first_for, ac_pf_of}

pub ac_pf-space : (start : AcStart) (t : Network) → bus_count t ≤ 32 → {w v : List Float} → Lent w v → AlikeSearched (ac_pf_of start t w) (ac_pf_of start t v)
unfolding ac_pf_of
ac_pf-space start t few l = search-space start (study_for t) few (kinds_for t) (first_for start t) (flat_for t) l

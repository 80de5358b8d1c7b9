-- The solve of a network from the parts that the code works out, and what well-indexed tables give them. Assumes nothing.
use Rattle.std.specs.Prelude.{List, ◌≡◌, Float}
use Rattle.std.proofs.Common.{sym, arith}
use Rattle.network.specs.Network.{Network, bus_count}
use Rattle.network.specs.Checks.{WellIndexed}
use Rattle.layout.specs.declared.BusKind.{BusKind}
use Rattle.layout.specs.declared.Limits.{Limits}
use Rattle.layout.specs.declared.Point.{Point}
use Rattle.islands.specs.Islands.{Ends}
use Rattle.starts.specs.declared.References.{References}
use Rattle.starts.specs.declared.AcStart.{AcStart}
use Rattle.starts.specs.Starts.{flat_of}
use Rattle.injections.specs.Injections.{GoodTriplets}
use Rattle.qlim.specs.Rounds.{study, GoodStudy}
use Rattle.pf_ac.specs.Search.{Searched, first_start, search_of}
use Rattle.pf_ac.specs.WithStart.{tabled, kinds_for, limits_for, references_for, ac_pf_of}

module _ (t : Network) (r : WellIndexed t) where
  pub branch-ends : Ends (bus_count t) t.branches.from t.branches.to
  branch-ends = let e = r.branches.to in record { paired = sym e; below = λ i p. (r.branch_from i p, r.branch_to i (omega arith)) }

  pub good-triplets : GoodTriplets (bus_count t) t.triplets
  good-triplets =
      let y = r.triplets in
      record { few = r.buses.few; cols = y.col; res = y.re; ims = y.im; rows_below = r.triplet_row; cols_below = r.triplet_col }

  pub good-study : (qg : List Float) (l : Limits) (hold : List Float) → GoodStudy (study (bus_count t) t.triplets t.buses.pd t.buses.qd t.buses.pg qg l hold)
  good-study qg l hold =
      let a = r.buses.pd in
      let b = r.buses.qd in
      let c = r.buses.pg in
      record { good = good-triplets; demands = omega arith; reactive = omega arith; dispatch = omega arith }

pub ac_pf-from-parts : (start : AcStart) (t : Network) (w : List Float) (kinds : List BusKind) → kinds ≡ kinds_for t → (l : Limits) → l ≡ limits_for t
    → (r : References) → r ≡ references_for t → (flat : Point) → flat ≡ flat_of (bus_count t) t.buses.vm_set r
    → (first : Point) → first ≡ first_start start (bus_count t) t.buses.vm_set t.buses.vm_case t.buses.va_case r flat
    → (qg : List Float) → qg ≡ tabled (bus_count t) t.buses.qg → (hold : List Float) → hold ≡ tabled (bus_count t) t.buses.vm_set
    → (x : Searched) → x ≡ search_of start (study (bus_count t) t.triplets t.buses.pd t.buses.qd t.buses.pg qg l hold) kinds first flat w
    → x ≡ ac_pf_of start t w
unfolding ac_pf_of
ac_pf-from-parts start t w kinds ek l el r er flat ef first es qg eq hold eh x ex = rw (ex, eh, eq, es, ef, er, el, ek)

-- What the tests tell, table by table, and that they tell no more. Assumes nothing.
use Rattle.std.specs.Prelude.{ℕ, ◌≤◌, ◌≡◌, refl, true, List, length, take, None}
use Rattle.std.proofs.Common.{sym, ◌∙◌, length-take-le, eqb-true, leb-true, eq-eqb, le-leb}
use Rattle.real.specs.Tests.{both, both_l, both_r}
use Rattle.network.specs.Missing.{missing_in, TripletsNamed}
use Rattle.network.specs.Missing.Laws.{missing-means}
use Rattle.network.specs.declared.Rows.{Rows}
use Rattle.network.specs.Network.{Buses, Slacks, Generators, Branches, Triplets, Network, bus_count, AtMost, room_of}
use Rattle.network.specs.Network.{RoomBuses, RoomSlacks, RoomGenerators, RoomBranches, RoomTriplets}
use Rattle.network.specs.Network.{first_buses, first_slacks, first_generators, first_branches, first_triplets, first_rows}
use Rattle.network.specs.Network.Laws.{room-buses, room-slacks, room-generators, room-branches, room-triplets}
use Rattle.network.specs.Checks.{sizes, buses_counted, slacks_counted, generators_counted, branches_counted, triplets_counted, counted}
use Rattle.network.specs.Checks.{SizedBuses, SizedSlacks, SizedGenerators, SizedBranches, SizedTriplets, WellIndexed}

-- ---- each table's test tells its facts

pub buses-sized : (t : Buses) → buses_counted t ≡ true → SizedBuses t
buses-sized t h =
    let e = both_r _ _ h in
    let e₁ = both_r _ _ e in
    let e₂ = both_r _ _ e₁ in
    let e₃ = both_r _ _ e₂ in
    let e₄ = both_r _ _ e₃ in
    let e₅ = both_r _ _ e₄ in
    let e₆ = both_r _ _ e₅ in
    record {
      few = leb-true _ _ (both_l _ _ h);
      vm_set = eqb-true _ _ (both_l _ _ e);
      pd = eqb-true _ _ (both_l _ _ e₁);
      qd = eqb-true _ _ (both_l _ _ e₂);
      pg = eqb-true _ _ (both_l _ _ e₃);
      qg = eqb-true _ _ (both_l _ _ e₄);
      vm_case = eqb-true _ _ (both_l _ _ e₅);
      va_case = eqb-true _ _ (both_l _ _ e₆);
    }

pub slacks-sized : (t : Slacks) → slacks_counted t ≡ true → SizedSlacks t
slacks-sized t h = record { few = leb-true _ _ (both_l _ _ h); angle = eqb-true _ _ (both_r _ _ h) }

pub generators-sized : (t : Generators) → generators_counted t ≡ true → SizedGenerators t
generators-sized t h =
    let e = both_r _ _ h in
    let e₁ = both_r _ _ e in
    record {
      few = leb-true _ _ (both_l _ _ h);
      qmin = eqb-true _ _ (both_l _ _ e);
      qmax = eqb-true _ _ (both_l _ _ e₁);
    }

pub branches-sized : (t : Branches) → branches_counted t ≡ true → SizedBranches t
branches-sized t h = record { few = leb-true _ _ (both_l _ _ h); to = eqb-true _ _ (both_r _ _ h) }

pub triplets-sized : (t : Triplets) → triplets_counted t ≡ true → SizedTriplets t
triplets-sized t h =
    let e = both_r _ _ h in
    let e₁ = both_r _ _ e in
    let e₂ = both_r _ _ e₁ in
    record {
      few = leb-true _ _ (both_l _ _ h);
      col = eqb-true _ _ (both_l _ _ e);
      re = eqb-true _ _ (both_l _ _ e₁);
      im = eqb-true _ _ (both_l _ _ e₂);
    }

-- ---- all of them

pub buses-few : (t : Network) → counted t ≡ true → bus_count t ≤ 32
unfolding counted
buses-few t h = (buses-sized t.buses (both_l _ _ h)).few

-- what refusal 7 leaves of the two tables whose rows name two buses
pub counted_branches_lem : (t : Network) → counted t ≡ true → SizedBranches t.branches
unfolding counted
counted_branches_lem t h = branches-sized t.branches (both_l _ _ (both_r _ _ (both_r _ _ (both_r _ _ h))))

pub counted-triplets : (t : Network) → counted t ≡ true → SizedTriplets t.triplets
unfolding counted
counted-triplets t h = triplets-sized t.triplets (both_r _ _ (both_r _ _ (both_r _ _ (both_r _ _ h))))

pub well-indexed : (t : Network) → counted t ≡ true → missing_in t ≡ None → WellIndexed t
unfolding counted
well-indexed t h k =
    let h₁ = both_r _ _ h in
    let h₂ = both_r _ _ h₁ in
    let l = counted_branches_lem t h in
    let y = counted-triplets t h in
    let named : TripletsNamed t = rw k at (missing-means t l.to y.col) in
    record {
      buses = buses-sized t.buses (both_l _ _ h);
      slacks = slacks-sized t.slacks (both_l _ _ h₁);
      generators = generators-sized t.generators (both_l _ _ h₂);
      branches = l;
      triplets = y;
      slack_bus = named.0.0.0;
      generator_bus = named.0.0.1;
      branch_from = named.0.1;
      branch_to = named.0.2;
      triplet_row = named.1;
      triplet_col = named.2;
    }

-- ---- tables of those sizes pass

pub sized-counted : (t : Network) → SizedBuses t.buses → SizedSlacks t.slacks → SizedGenerators t.generators → SizedBranches t.branches
    → SizedTriplets t.triplets → counted t ≡ true
unfolding counted both
sized-counted t b r g l y = rw (
  b.vm_set,
  b.pd,
  b.qd,
  b.pg,
  b.qg,
  b.vm_case,
  b.va_case,
  r.angle,
  g.qmin,
  g.qmax,
  l.to,
  y.col,
  y.re,
  y.im,
  le-leb _ 32 b.few,
  le-leb _ 32 r.few,
  le-leb _ 32 g.few,
  le-leb _ 64 l.few,
  le-leb _ 256 y.few,
  eq-eqb (length t.buses.kind) _ refl,
  eq-eqb (length t.slacks.bus) _ refl,
  eq-eqb (length t.generators.bus) _ refl,
  eq-eqb (length t.branches.from) _ refl,
  eq-eqb (length t.triplets.row) _ refl,
)

-- ---- the first rows of tables that have room for them

-- two columns cut to n rows are of one length
one-length : {A B : Type 0} (n : ℕ) (k : List A) (l : List B) → n ≤ length k → n ≤ length l → length (take n l) ≡ length (take n k)
one-length n k l h i = length-take-le n l i ∙ sym (length-take-le n k h)

module _ (n : ℕ) where
  pub sized-first-buses : (t : Buses) → n ≤ 32 → RoomBuses n t → SizedBuses (first_buses n t)
  sized-first-buses t few h =
      record {
        few = rw (length-take-le n t.kind h.kind) few;
        vm_set = one-length n t.kind t.vm_set h.kind h.vm_set;
        pd = one-length n t.kind t.pd h.kind h.pd;
        qd = one-length n t.kind t.qd h.kind h.qd;
        pg = one-length n t.kind t.pg h.kind h.pg;
        qg = one-length n t.kind t.qg h.kind h.qg;
        vm_case = one-length n t.kind t.vm_case h.kind h.vm_case;
        va_case = one-length n t.kind t.va_case h.kind h.va_case;
      }

  pub sized-first-slacks : (t : Slacks) → n ≤ 32 → RoomSlacks n t → SizedSlacks (first_slacks n t)
  sized-first-slacks t few h =
      record {
        few = rw (length-take-le n t.bus h.bus) few;
        angle = one-length n t.bus t.angle h.bus h.angle;
      }

  pub sized-first-generators : (t : Generators) → n ≤ 32 → RoomGenerators n t → SizedGenerators (first_generators n t)
  sized-first-generators t few h =
      record {
        few = rw (length-take-le n t.bus h.bus) few;
        qmin = one-length n t.bus t.qmin h.bus h.qmin;
        qmax = one-length n t.bus t.qmax h.bus h.qmax;
      }

  pub sized-first-branches : (t : Branches) → n ≤ 64 → RoomBranches n t → SizedBranches (first_branches n t)
  sized-first-branches t few h =
      record {
        few = rw (length-take-le n t.from h.from) few;
        to = one-length n t.from t.to h.from h.to;
      }

  sized-first-triplets : (t : Triplets) → n ≤ 256 → RoomTriplets n t → SizedTriplets (first_triplets n t)
  sized-first-triplets t few h =
      record {
        few = rw (length-take-le n t.row h.row) few;
        col = one-length n t.row t.col h.row h.col;
        re = one-length n t.row t.re h.row h.re;
        im = one-length n t.row t.im h.row h.im;
      }

pub first_counted : (r : Rows) (t : Network) → AtMost r sizes → AtMost r (room_of t) → counted (first_rows r t) ≡ true
first_counted r t few fits =
    sized-counted (first_rows r t)
    (sized-first-buses r.buses t.buses few.buses (room-buses _ _ fits.buses))
    (sized-first-slacks r.slacks t.slacks few.slacks (room-slacks _ _ fits.slacks))
    (sized-first-generators r.generators t.generators few.generators (room-generators _ _ fits.generators))
    (sized-first-branches r.branches t.branches few.branches (room-branches _ _ fits.branches))
    (sized-first-triplets r.triplets t.triplets few.triplets (room-triplets _ _ fits.triplets))

-- as many buses as are told
pub first_buses_lem : (r : Rows) (t : Network) → AtMost r (room_of t) → bus_count (first_rows r t) ≡ r.buses
first_buses_lem r t fits = length-take-le r.buses t.buses.kind (room-buses _ t.buses fits.buses).kind

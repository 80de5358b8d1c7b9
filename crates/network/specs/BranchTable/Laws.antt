-- What the tests of a branch table tell, what room it has, and its first rows. Assumes nothing.
use Rattle.std.specs.Prelude.{ℕ, ◌≤◌, ◌≡◌, refl, true, length}
use Rattle.std.proofs.Common.{arith, length-take-le, eqb-true, eq-eqb}
use Rattle.real.specs.Tests.{both, both_l, both_r}
use Rattle.network.specs.declared.Rows.{Rows}
use Rattle.network.specs.Network.{AtMost}
use Rattle.network.specs.Network.Laws.{under2, under8, room-buses, room-slacks, room-generators, room-branches}
use Rattle.network.specs.Checks.{sizes, counted, SizedTriplets}
use Rattle.network.specs.Checks.Laws.{sized-counted, sized-first-buses, sized-first-slacks, sized-first-generators, sized-first-branches}
use Rattle.network.specs.BranchTable.{Values, BranchTable, BranchNetwork, values_counted, SizedValues, values_room, branch_table_room, branch_room_of}
use Rattle.network.specs.BranchTable.{RoomValues, RoomBranchTable, RoomForBranches, first_values, first_branch_rows, with_triplets, no_triplets}

-- ---- the test of lengths

pub values-sized : (n : ℕ) (v : Values) → values_counted n v ≡ true → SizedValues n v
unfolding values_counted
values-sized n v h =
    let e₁ = both_r _ _ h in
    let e₂ = both_r _ _ e₁ in
    let e₃ = both_r _ _ e₂ in
    let e₄ = both_r _ _ e₃ in
    let e₅ = both_r _ _ e₄ in
    let e₆ = both_r _ _ e₅ in
    let e₇ = both_r _ _ e₆ in
    let e₈ = both_r _ _ e₇ in
    record {
      g = eqb-true _ _ (both_l _ _ h);
      b = eqb-true _ _ (both_l _ _ e₁);
      g_fr = eqb-true _ _ (both_l _ _ e₂);
      b_fr = eqb-true _ _ (both_l _ _ e₃);
      g_to = eqb-true _ _ (both_l _ _ e₄);
      b_to = eqb-true _ _ (both_l _ _ e₅);
      tap = eqb-true _ _ (both_l _ _ e₆);
      shift = eqb-true _ _ (both_l _ _ e₇);
      sw = eqb-true _ _ (both_l _ _ e₈);
    }

pub sized-values : (n : ℕ) (v : Values) → SizedValues n v → values_counted n v ≡ true
unfolding values_counted both
sized-values n v s = rw (s.g, s.b, s.g_fr, s.b_fr, s.g_to, s.b_to, s.tap, s.shift, s.sw, eq-eqb n n refl)

-- ---- room

pub room-values : (n : ℕ) (v : Values) → n ≤ values_room v → RoomValues n v
room-values n v h =
    let u = under2 n _ _ h in
    let w = under8 n _ _ _ _ _ _ _ _ u.0 in
    let f = w.0 in
    let b = w.1 in
    record { g = f.0.0; b = f.0.1; g_fr = f.1.0; b_fr = f.1.1; g_to = b.0.0; b_to = b.0.1; tap = b.1.0; shift = b.1.1; sw = u.1 }

pub room-branch-table : (n : ℕ) (t : BranchTable) → n ≤ branch_table_room t → RoomBranchTable n t
room-branch-table n t h =
    let u = under2 n _ _ h in
    record { ends = room-branches n t.ends u.0; values = room-values n t.values u.1 }

pub room-for-branches : (r : Rows) (t : BranchNetwork) → AtMost r (branch_room_of t) → RoomForBranches r t
room-for-branches r t h =
    record {
      buses = room-buses _ t.buses h.buses;
      slacks = room-slacks _ t.slacks h.slacks;
      generators = room-generators _ t.generators h.generators;
      table = room-branch-table _ t.table h.branches;
    }

-- ---- the first rows

sized-first-values : (n : ℕ) (v : Values) → RoomValues n v → SizedValues n (first_values n v)
sized-first-values n v h =
    record {
      g = length-take-le n v.g h.g;
      b = length-take-le n v.b h.b;
      g_fr = length-take-le n v.g_fr h.g_fr;
      b_fr = length-take-le n v.b_fr h.b_fr;
      g_to = length-take-le n v.g_to h.g_to;
      b_to = length-take-le n v.b_to h.b_to;
      tap = length-take-le n v.tap h.tap;
      shift = length-take-le n v.shift h.shift;
      sw = length-take-le n v.sw h.sw;
    }

no-triplets-sized : SizedTriplets no_triplets
no-triplets-sized = record { few = omega arith; col = refl; re = refl; im = refl }

module _ (r : Rows) (t : BranchNetwork) (few : AtMost r sizes) (fits : AtMost r (branch_room_of t)) where
  -- they pass refusal 7
  pub first-branches-counted : counted (with_triplets (first_branch_rows r t) no_triplets) ≡ true
  first-branches-counted =
      let m = room-for-branches r t fits in
      sized-counted (with_triplets (first_branch_rows r t) no_triplets)
      (sized-first-buses r.buses t.buses few.buses m.buses)
      (sized-first-slacks r.slacks t.slacks few.slacks m.slacks)
      (sized-first-generators r.generators t.generators few.generators m.generators)
      (sized-first-branches r.branches t.table.ends few.branches m.table.ends)
      no-triplets-sized

  pub first-values-counted : let u = first_branch_rows r t in values_counted (length u.table.ends.from) u.table.values ≡ true
  first-values-counted =
      let m = (room-for-branches r t fits).table in
      rw (length-take-le r.branches t.table.ends.from m.ends.from)
      (sized-values r.branches (first_values r.branches t.table.values) (sized-first-values r.branches t.table.values m.values))

  -- as many buses as are told
  pub first-branch-buses : length (first_branch_rows r t).buses.kind ≡ r.buses
  first-branch-buses = length-take-le r.buses t.buses.kind (room-for-branches r t fits).buses.kind

-- What room a table's columns have, and its first rows. Assumes nothing.
use Rattle.std.specs.Prelude.{ℕ, ◌≤◌, min, true, ◌≡◌}
use Rattle.std.proofs.Common.{arith, leb-true, le-leb}
use Rattle.real.specs.Tests.{both, both_l, both_r}
use Rattle.network.specs.declared.Rows.{Rows}
use Rattle.network.specs.Network.{Buses, Slacks, Generators, Branches, Triplets, Network, room_of, buses_room, slacks_room, generators_room, branches_room, triplets_room, AtMost, fits_of}
use Rattle.network.specs.Network.{RoomBuses, RoomSlacks, RoomGenerators, RoomBranches, RoomTriplets, RoomFor}

-- ---- at most the shortest column is at most each

pub under2 : (n a b : ℕ) → n ≤ min a b → (n ≤ a) × (n ≤ b)
under2 n a b h = omega arith

under4 : (n a b c d : ℕ) → n ≤ min (min a b) (min c d) → ((n ≤ a) × (n ≤ b)) × ((n ≤ c) × (n ≤ d))
under4 n a b c d h = let u = under2 n (min a b) (min c d) h in (under2 n a b u.0, under2 n c d u.1)

pub under8 : (n a b c d e f g h : ℕ) → n ≤ min (min (min a b) (min c d)) (min (min e f) (min g h))
    → (((n ≤ a) × (n ≤ b)) × ((n ≤ c) × (n ≤ d))) × (((n ≤ e) × (n ≤ f)) × ((n ≤ g) × (n ≤ h)))
under8 n a b c d e f g h k = let u = under2 n _ _ k in (under4 n a b c d u.0, under4 n e f g h u.1)

pub room-buses : (n : ℕ) (t : Buses) → n ≤ buses_room t → RoomBuses n t
room-buses n t h =
    let u = under8 n _ _ _ _ _ _ _ _ h in
    let f = u.0 in
    let b = u.1 in
    record { kind = f.0.0; vm_set = f.0.1; pd = f.1.0; qd = f.1.1; pg = b.0.0; qg = b.0.1; vm_case = b.1.0; va_case = b.1.1 }

pub room-slacks : (n : ℕ) (t : Slacks) → n ≤ slacks_room t → RoomSlacks n t
room-slacks n t h = let u = under2 n _ _ h in record { bus = u.0; angle = u.1 }

pub room-generators : (n : ℕ) (t : Generators) → n ≤ generators_room t → RoomGenerators n t
room-generators n t h =
    let u = under2 n _ _ h in
    let v = under2 n _ _ u.0 in
    record { bus = v.0; qmin = v.1; qmax = u.1 }

pub room-branches : (n : ℕ) (t : Branches) → n ≤ branches_room t → RoomBranches n t
room-branches n t h = let u = under2 n _ _ h in record { from = u.0; to = u.1 }

pub room-triplets : (n : ℕ) (t : Triplets) → n ≤ triplets_room t → RoomTriplets n t
room-triplets n t h = let u = under4 n _ _ _ _ h in record { row = u.0.0; col = u.0.1; re = u.1.0; im = u.1.1 }

pub room_for : (r : Rows) (t : Network) → AtMost r (room_of t) → RoomFor r t
room_for r t h =
    record {
      buses = room-buses _ t.buses h.buses;
      slacks = room-slacks _ t.slacks h.slacks;
      generators = room-generators _ t.generators h.generators;
      branches = room-branches _ t.branches h.branches;
      triplets = room-triplets _ t.triplets h.triplets;
    }

-- ---- the test of rows against room

pub fits-at-most : (r m : Rows) → fits_of r m ≡ true → AtMost r m
fits-at-most r m h =
    let h₁ = both_r _ _ h in
    let h₂ = both_r _ _ h₁ in
    let h₃ = both_r _ _ h₂ in
    record {
      buses = leb-true _ _ (both_l _ _ h);
      slacks = leb-true _ _ (both_l _ _ h₁);
      generators = leb-true _ _ (both_l _ _ h₂);
      branches = leb-true _ _ (both_l _ _ h₃);
      triplets = leb-true _ _ (both_r _ _ h₃);
    }

pub at-most-fits : (r m : Rows) → AtMost r m → fits_of r m ≡ true
unfolding both
at-most-fits r m h =
    rw (le-leb _ _ h.buses, le-leb _ _ h.slacks, le-leb _ _ h.generators, le-leb _ _ h.branches, le-leb _ _ h.triplets)

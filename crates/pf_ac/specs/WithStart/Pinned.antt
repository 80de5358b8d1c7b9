-- More than 01 withholds: the case start does not read vm_case at slack and V buses either, since those magnitudes are pinned. Assumes nothing.
use Prim.Native.Nat.{ℕ, zero, suc, ◌+◌, ◌≤◌, ◌<◌}
use Rattle.std.specs.Prelude.{Bool, false, ◌⊎◌, ◌≡◌, eqb, ltb, length, get_or, replicate, Float}
use Rattle.std.proofs.Math.Bool.{true}
use mathlib.Core.List.{List}
use Rattle.std.proofs.Common.{inl, inr, sym, ◌∙◌, add-one, ltb-true, ltb-false, ext_get_or}
use Rattle.std.proofs.Math.Path.{refl, ap}
use Rattle.std.proofs.lemmas.List.{length-replicate}
use Rattle.std.specs.Float.Ieee.{nan}
use Rattle.real.specs.Literals.{nought}
use Rattle.network.specs.Network.{Network, buses_of, network_of, bus_count}
use Rattle.layout.specs.declared.BusKind.{BusKind}
use Rattle.layout.specs.declared.BusKind.TheVariants.{Slack, Pv}
use Rattle.layout.specs.declared.Point.{Point}
use Rattle.layout.specs.Table.{stores, table}
use Rattle.layout.specs.Table.Laws.{stores-length, stores_at, stores-past, table_at}
use Rattle.layout.specs.Layout.{kind_of}
use Rattle.layout.specs.Kinds.Laws.{kinds-at}
use Rattle.layout.specs.Residual.Laws.{NoReactive}
use Rattle.starts.specs.Starts.{case_vm, case_of}
use Rattle.qlim.specs.declared.Settled.{Settled}
use Rattle.moves.specs.Moves.{pin_of, pinned}
use Rattle.qlim.specs.Rounds.{Study, nothing, qlim_of}
use Rattle.qlim.specs.Rounds.Unread.{start-unread}
use Rattle.starts.specs.declared.AcStart.{AcStart}
use Rattle.starts.specs.declared.AcStart.TheVariants.{Flat, Case}
use Rattle.pf_ac.specs.Search.{nth_start, better_of, try_of, search_from, search_of}
use Rattle.pf_ac.specs.WithStart.{kinds_for, study_for, flat_for, first_for, ac_pf_of}
use Rattle.pf_ac.specs.WithStart.Withheld.{kind_for, SameAt}

-- ---- points alike once they are pinned

module _ (n : ℕ) (few : n ≤ 32) (kinds : List BusKind) (hold va : List Float) (f g : ℕ → Float) where
  abbrev pin : (ℕ → Float) → ℕ → Float
  pin h b = pin_of (kind_of kinds b) (get_or (table n nought h) b nan) (get_or hold b nan)

  abbrev magnitudes : (ℕ → Float) → List Float
  magnitudes h = stores (pin h) n (table n nought h)

  room : (h : ℕ → Float) → n ≤ length (table n nought h)
  room h = simp (stores-length, length-replicate) few

  pin-alike : ((b : ℕ) → b < n → NoReactive (kind_of kinds b) ⊎ (f b ≡ g b))
      → pinned n kinds hold (record { vm = table n nought f; va = va }) ≡ pinned n kinds hold (record { vm = table n nought g; va = va })
  unfolding pinned
  pin-alike same = ap (λ (l : List Float). record { vm = l; va = va }) (ext_get_or nan (magnitudes f) (magnitudes g) (simp stores-length) (λ i q. at i (ltb i n) refl))
    where
      pins : (k : BusKind) (x y v : Float) → NoReactive k ⊎ (x ≡ y) → pin_of k x v ≡ pin_of k y v
      pins k x y v (inl (inl e)) = rw e
      pins k x y v (inl (inr e)) = rw e
      pins k x y v (inr e) = rw e

      one : (i : ℕ) → i < n → pin f i ≡ pin g i
      one i h = rw (table_at n nought f i nan h few, table_at n nought g i nan h few) (pins (kind_of kinds i) (f i) (g i) (get_or hold i nan) (same i h))

      at : (i : ℕ) (t : Bool) → ltb i n ≡ t → get_or (magnitudes f) i nan ≡ get_or (magnitudes g) i nan
      at i true e =
          let h = ltb-true i n e in
          stores_at (pin f) n (table n nought f) i nan h (room f) ∙ one i h ∙ sym (stores_at (pin g) n (table n nought g) i nan h (room g))
      at i false e =
          let h = ltb-false i n e in
          stores-past (pin f) n (table n nought f) i nan h ∙ stores-past f n (replicate 32 nought) i nan h
          ∙ sym (stores-past (pin g) n (table n nought g) i nan h ∙ stores-past g n (replicate 32 nought) i nan h)

-- ---- the search reads its first start through the rounds alone

module _ (start : AcStart) (s : Study) (kinds : List BusKind) (p q flat : Point) (rounds : (w : List Float) → qlim_of s kinds p w ≡ qlim_of s kinds q w) where
  later : (m i : ℕ) (best : Settled) (w : List Float) → search_from m (suc i) start s kinds p flat best w ≡ search_from m (suc i) start s kinds q flat best w
  unfolding search_from nth_start
  later zero i best w = refl
  later (suc m) i best w = on (λ k v. rw (add-one (suc i)) (later m (suc i) k v))
    where
      on : ((k : Settled) (v : List Float) → search_from m (suc i + 1) start s kinds p flat k v ≡ search_from m (suc i + 1) start s kinds q flat k v)
          → try_of (eqb (suc i) 0) best (qlim_of s kinds (nth_start start s.n kinds p flat (suc i)) w) (search_from m (suc i + 1) start s kinds p flat)
          ≡ try_of (eqb (suc i) 0) best (qlim_of s kinds (nth_start start s.n kinds q flat (suc i)) w) (search_from m (suc i + 1) start s kinds q flat)
      on h = λ j. try_of (eqb (suc i) 0) best (qlim_of s kinds (nth_start start s.n kinds p flat (suc i)) w) (λ k v. h k v j)

  first : (m : ℕ) (best best' : Settled) (w : List Float) → search_from (suc m) 0 start s kinds p flat best w ≡ search_from (suc m) 0 start s kinds q flat best' w
  unfolding search_from nth_start try_of better_of
  first m best best' w = λ j. try_of true best (rounds w j) (λ k v. later m 0 k v j)

search-pinned : (start : AcStart) (s : Study) (kinds : List BusKind) (p q flat : Point) → ((w : List Float) → qlim_of s kinds p w ≡ qlim_of s kinds q w)
    → (w : List Float)
    → search_of start s kinds p flat w ≡ search_of start s kinds q flat w
unfolding search_of
search-pinned Flat s kinds p q flat rounds w = first Flat s kinds p q flat rounds 4 (nothing p) (nothing q) w
search-pinned Case s kinds p q flat rounds w = first Case s kinds p q flat rounds 5 (nothing p) (nothing q) w

-- ---- the solve

-- t with other stored magnitudes
abbrev pub with_stored : Network → List Float → Network
with_stored t vm =
    let b = t.buses in
    network_of (buses_of b.kind b.vm_set b.pd b.qd b.pg b.qg vm b.va_case) t.slacks t.generators t.branches t.triplets

module _ (t : Network) (few : bus_count t ≤ 32) (vm : List Float)
    (same : (b : ℕ) → b < bus_count t → ((kind_for t b ≡ Slack) ⊎ (kind_for t b ≡ Pv)) ⊎ SameAt t.buses.vm_case vm b) where
  abbrev set : List Float
  set = t.buses.vm_set

  figure : (b : ℕ) → b < bus_count t → NoReactive (kind_of (kinds_for t) b) ⊎ (case_vm set t.buses.vm_case b ≡ case_vm set vm b)
  figure b h = rw (kinds-at (bus_count t) t.buses.kind t.slacks.bus b Slack h few) (go (same b h))
    where
      go : ((kind_for t b ≡ Slack) ⊎ (kind_for t b ≡ Pv)) ⊎ SameAt t.buses.vm_case vm b
          → NoReactive (kind_for t b) ⊎ (case_vm set t.buses.vm_case b ≡ case_vm set vm b)
      go (inl e) = inl e
      go (inr e) = inr (rw e)

  start-pinned : (start : AcStart)
      → pinned (bus_count t) (kinds_for t) (study_for t).hold (first_for start t) ≡ pinned (bus_count t) (kinds_for t) (study_for t).hold (first_for start (with_stored t vm))
  unfolding case_of
  start-pinned Flat = refl
  start-pinned Case = pin-alike (bus_count t) few (kinds_for t) (study_for t).hold _ (case_vm set t.buses.vm_case) (case_vm set vm) figure

  pub pinned-unread : (start : AcStart) (w : List Float) → ac_pf_of start t w ≡ ac_pf_of start (with_stored t vm) w
  unfolding ac_pf_of
  pinned-unread start =
      search-pinned start (study_for t) (kinds_for t) (first_for start t) (first_for start (with_stored t vm)) (flat_for t)
      (start-unread (kinds_for t) (study_for t) (first_for start t) (first_for start (with_stored t vm)) (start-pinned start))

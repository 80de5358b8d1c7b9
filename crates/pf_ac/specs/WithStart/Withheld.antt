-- Demand 3: two networks that differ only in 01's "Withheld columns" are solved alike, in answer and workspace. Assumes nothing.
use Prim.Native.Nat.{ℕ, zero, suc, ◌+◌, ◌≤◌, ◌<◌}
use Rattle.std.specs.Prelude.{List, ◌⊎◌, ◌≡◌, eqb, length, get_or, Float}
use Rattle.std.proofs.Common.{inl, inr, sym, ◌∙◌, arith}
use Rattle.std.proofs.Math.Path.{refl, ap}
use Rattle.std.proofs.lemmas.List.{length-replicate}
use Rattle.std.specs.Float.{nan}
use Rattle.real.specs.Tests.{no-case}
use Rattle.real.specs.Literals.{nought}
use Rattle.network.specs.Network.{Buses, Generators, Network, buses_of, generators_of, network_of, bus_count}
use Rattle.layout.specs.declared.BusKind.{BusKind}
use Rattle.layout.specs.declared.BusKind.TheVariants.{Slack, Pv, Pq}
use Rattle.layout.specs.declared.Point.{Point}
use Rattle.layout.specs.Table.Laws.{stores-length, table_at}
use Rattle.layout.specs.Layout.{kind_of}
use Rattle.layout.specs.Kinds.{kind_at, kinds_of}
use Rattle.layout.specs.Kinds.Laws.{kinds-at}
use Rattle.layout.specs.Limits.{sum_at, limits_of}
use Rattle.layout.specs.Limits.Laws.{qmin-at, qmax-at, sum-unread}
use Rattle.qlim.specs.declared.Settled.{Settled}
use Rattle.qlim.specs.Rounds.{Study, qlim_of, nothing}
use Rattle.qlim.specs.Rounds.Unread.{AlikeStudies}
use Rattle.qlim.proofs.Unread.{rounds-unread}
use Rattle.starts.specs.declared.AcStart.{AcStart}
use Rattle.starts.specs.declared.AcStart.TheVariants.{Flat}
use Rattle.pf_ac.specs.Search.{nth_start, try_of, search_from, start_count, search_of}
use Rattle.pf_ac.specs.WithStart.{tabled, kinds_for, limits_for, study_for, flat_for, first_for, ac_pf_of}

-- 01's kind of bus b
abbrev pub kind_for : Network → ℕ → BusKind
kind_for t b = kind_at (length t.slacks.bus) t.buses.kind t.slacks.bus b

-- a column's figure at a place
abbrev pub SameAt : List Float → List Float → ℕ → Type 0
SameAt l m b = get_or l b nan ≡ get_or m b nan

-- ---- alike but for the withheld figures: what stands before a ⊎ is where 01 withholds the figure

-- columns of one length, alike but where P says
pub record Except (P : ℕ → Type 0) (n : ℕ) (l m : List Float) : Type 0 where
  pub size : length l ≡ length m
  pub same : (b : ℕ) → b < n → P b ⊎ SameAt l m b

-- under the flat start the stored voltages are withheld everywhere
pub record Stored (start : AcStart) (l m : List Float) : Type 0 where
  pub size : length l ≡ length m
  pub same : (start ≡ Flat) ⊎ (l ≡ m)

abbrev pub AtSlack : (ℕ → BusKind) → ℕ → Type 0
AtSlack kind b = kind b ≡ Slack

-- pd, qd and pg at slack buses, qg at slack and V buses
pub record AlikeBuses (start : AcStart) (is : ℕ → BusKind) (t u : Buses) : Type 0 where
  pub kind : t.kind ≡ u.kind
  pub vm_set : t.vm_set ≡ u.vm_set
  pub pd : Except (AtSlack is) (length t.kind) t.pd u.pd
  pub qd : Except (AtSlack is) (length t.kind) t.qd u.qd
  pub pg : Except (AtSlack is) (length t.kind) t.pg u.pg
  pub qg : Except (λ b. AtSlack is b ⊎ (is b ≡ Pv)) (length t.kind) t.qg u.qg
  pub vm_case : Stored start t.vm_case u.vm_case
  pub va_case : Stored start t.va_case u.va_case

-- the limits of a generator at a slack or Q bus
abbrev pub Unlimited : (ℕ → BusKind) → List ℕ → ℕ → Type 0
Unlimited is bus g = let b = get_or bus g 0 in AtSlack is b ⊎ (is b ≡ Pq)

pub record AlikeGenerators (is : ℕ → BusKind) (t u : Generators) : Type 0 where
  pub bus : t.bus ≡ u.bus
  pub qmin : Except (Unlimited is t.bus) (length t.bus) t.qmin u.qmin
  pub qmax : Except (Unlimited is t.bus) (length t.bus) t.qmax u.qmax

-- all else agrees
pub record Alike (start : AcStart) (t u : Network) : Type 0 where
  pub buses : AlikeBuses start (kind_for t) t.buses u.buses
  pub slacks : t.slacks ≡ u.slacks
  pub generators : AlikeGenerators (kind_for t) t.generators u.generators
  pub branches : t.branches ≡ u.branches
  pub triplets : t.triplets ≡ u.triplets

-- ---- the search, through the rounds

module _ (start : AcStart) (s u : Study) (n : s.n ≡ u.n) (kinds : List BusKind) (rounds : (p : Point) (w : List Float) → qlim_of s kinds p w ≡ qlim_of u kinds p w) (first flat : Point) where
  search-alike : (m i : ℕ) (best : Settled) (w : List Float) → search_from m i start s kinds first flat best w ≡ search_from m i start u kinds first flat best w
  unfolding search_from
  search-alike zero i best w = refl
  search-alike (suc m) i best w =
      ap (λ (k : ℕ). try_of (eqb i 0) best (qlim_of s kinds (nth_start start k kinds first flat i) w) (search_from m (i + 1) start s kinds first flat)) n
      ∙ (λ j. try_of (eqb i 0) best (rounds (nth_start start u.n kinds first flat i) w j) (λ k v. search-alike m (i + 1) k v j))

-- ---- the studies

-- u's figures in the network t
abbrev with : Network → Network → Network
with t u =
    let b = t.buses in
    let f = u.buses in
    let g = u.generators in
    network_of (buses_of b.kind b.vm_set f.pd f.qd f.pg f.qg f.vm_case f.va_case) t.slacks
    (generators_of t.generators.bus g.qmin g.qmax) t.branches t.triplets

module _ (start : AcStart) (t u : Network) (few : bus_count t ≤ 32) (a : Alike start t u) where
  abbrev gens : List ℕ
  gens = t.generators.bus

  -- a sum of limits at a bus: only its own generators count, and those are all withheld or all given
  module _ (q p : List Float) (same : (g : ℕ) → g < length gens → Unlimited (kind_for t) gens g ⊎ SameAt q p g) (b : ℕ) where
    sum_alike : kind_for t b ≡ Pv → sum_at (length gens) gens q b ≡ sum_at (length gens) gens p b
    sum_alike e = sum-unread (length gens) gens q p b (λ g h. go g (same g h))
      where
        go : (g : ℕ) → Unlimited (kind_for t) gens g ⊎ SameAt q p g → (get_or gens g 0 ≡ b → ⊥) ⊎ SameAt q p g
        go g (inl (inl k)) = inl (λ at. let i = ap (kind_for t) at in no-case cc)
        go g (inl (inr k)) = inl (λ at. let i = ap (kind_for t) at in no-case cc)
        go g (inr s) = inr s

  limits-alike : (b : ℕ) → b < bus_count t → (k : BusKind) → kind_for t b ≡ k
      → ((kind_for t b ≡ Slack) ⊎ (kind_for t b ≡ Pq)) ⊎ (SameAt (limits_for t).qmin (limits_for (with t u)).qmin b × SameAt (limits_for t).qmax (limits_for (with t u)).qmax b)
  limits-alike b h Slack e = inl (inl e)
  limits-alike b h Pq e = inl (inr e)
  limits-alike b h Pv e =
      let g = t.generators in
      let f = u.generators in
      inr (
        qmin-at gens g.qmin g.qmax b (omega arith) ∙ sum_alike g.qmin f.qmin a.generators.qmin.same b e ∙ sym (qmin-at gens f.qmin f.qmax b (omega arith)),
        qmax-at gens g.qmin g.qmax b (omega arith) ∙ sum_alike g.qmax f.qmax a.generators.qmax.same b e ∙ sym (qmax-at gens f.qmin f.qmax b (omega arith)),
      )

  gens-alike : (limits_for t).has_gen ≡ (limits_for (with t u)).has_gen
  unfolding limits_of
  gens-alike = refl

  kinds_fit : bus_count t ≤ length (kinds_for t)
  unfolding kinds_of
  kinds_fit = simp (stores-length, length-replicate) few

  tabled-fits : (l : List Float) → bus_count t ≤ length (tabled (bus_count t) l)
  tabled-fits l = simp (stores-length, length-replicate) few

  tabled-at : (l : List Float) (b : ℕ) → b < bus_count t → get_or (tabled (bus_count t) l) b nan ≡ get_or l b nan
  tabled-at l b h = table_at (bus_count t) nought (λ i. get_or l i nan) b nan h few

  kind-at : (b : ℕ) → b < bus_count t → kind_of (kinds_for t) b ≡ kind_for t b
  kind-at b h = kinds-at (bus_count t) t.buses.kind t.slacks.bus b Slack h few

  studies-alike : AlikeStudies (kinds_for t) (study_for t) (study_for (with t u))
  studies-alike =
      record {
        same_n = refl;
        same_y = refl;
        same_hold = refl;
        same_gens = gens-alike;
        same_pd = λ b h. rw (kind-at b h) (a.buses.pd.same b h);
        same_qd = λ b h. rw (kind-at b h) (a.buses.qd.same b h);
        same_pg = λ b h. rw (kind-at b h) (a.buses.pg.same b h);
        same_qg = λ b h. rw (kind-at b h, tabled-at t.buses.qg b h, tabled-at u.buses.qg b h) (a.buses.qg.same b h);
        same_limits = λ b h. rw (kind-at b h) (limits-alike b h (kind_for t b) refl);
        kinds_fit = kinds_fit;
        qg_fit = tabled-fits t.buses.qg;
        qg_fits = tabled-fits u.buses.qg;
      }

  -- ---- the starts

  first_alike : first_for start t ≡ first_for start (with t u)
  first_alike = go a.buses.vm_case.same a.buses.va_case.same
    where
      go : (start ≡ Flat) ⊎ (t.buses.vm_case ≡ u.buses.vm_case) → (start ≡ Flat) ⊎ (t.buses.va_case ≡ u.buses.va_case)
          → first_for start t ≡ first_for start (with t u)
      go (inl e) h = rw e
      go (inr v) (inl e) = rw e
      go (inr v) (inr e) = rw (v, e)

  -- ---- the solve

  figures-unread : (w : List Float) → ac_pf_of start t w ≡ ac_pf_of start (with t u) w
  unfolding ac_pf_of search_of
  figures-unread w =
      search-alike start (study_for t) (study_for (with t u)) refl (kinds_for t) (rounds-unread (kinds_for t) (study_for t) (study_for (with t u)) few studies-alike) (first_for start t) (flat_for t)
      (start_count start) 0 (nothing (first_for start t)) w
      ∙ ap (λ (f : Point). search_from (start_count start) 0 start (study_for (with t u)) (kinds_for t) f (flat_for t) (nothing f) w) first_alike

pub withheld : (start : AcStart) (t u : Network) → bus_count t ≤ 32 → Alike start t u → (w : List Float) → ac_pf_of start t w ≡ ac_pf_of start u w
withheld start t u few a w =
    let b = a.buses in
    let f = u.buses in
    let g = u.generators in
    figures-unread start t u few a w
    ∙ (λ j. ac_pf_of start (network_of (buses_of (b.kind j) (b.vm_set j) f.pd f.qd f.pg f.qg f.vm_case f.va_case) (a.slacks j)
    (generators_of (a.generators.bus j) g.qmin g.qmax) (a.branches j) (a.triplets j)) w)

-- What is told is meant, and what is meant is told: so none is told exactly where every bus number is below the bus count. Assumes nothing.
use Rattle.std.specs.Prelude.{ℕ, ◌≤◌, ◌<◌, ◌≡◌, Bool, true, false, cond, List, ◌⊎◌, leb, length, get_or, zip, ◌||◌, Option, Some, None}
use Rattle.std.proofs.Math.Path.{refl}
use Rattle.std.proofs.Common.{ap, ◌∙◌, inl, inr, ⊎_elim, arith, leb-true, leb-false, le-leb}
use Rattle.std.proofs.lemmas.Bool.{lt-leb}
use Rattle.real.specs.Tests.{nor-left, nor-right, or-first, or-last}
use Rattle.real.specs.First.{first_below}
use Rattle.std.specs.List.{position}
use Rattle.std.proofs.lemmas.Slice.Zip.{get_or-zip, length-zip}
use Rattle.real.specs.First.Laws.{position_first, first_same, clear-nowhere, lowest-at, nowhere-clear, at-lowest}
use Rattle.network.specs.Below.{Below}
use Rattle.network.specs.Network.{Network, bus_count}
use Rattle.network.specs.Missing.{bus_missing, end_missing, first_field, missing_at, row_in, in_column, in_ends, or_next, missing_by, missing_in, MeansIn}
use Rattle.network.specs.Missing.{LowestRow, LowestEnd, SlacksNamed, GeneratorsNamed, BranchesNamed, TripletsNamed, Means}
use Rattle.network.specs.declared.Naming.{Naming}
use Rattle.network.specs.declared.Naming.TheVariants.{Slack, Generator, Branch, Triplet}
use Rattle.network.specs.declared.MissingBus.{MissingBus}

-- with no buses every row is at fault
pub no-buses-missing : (l : List ℕ) (i : ℕ) → bus_missing 0 l i ≡ true
no-buses-missing l i = le-leb 0 (get_or l i 0) (omega arith)

-- ---- one column

module _ (n : ℕ) (l : List ℕ) where
  pub nowhere-below : first_below (length l) (bus_missing n l) ≡ None → Below n l
  nowhere-below h i p = leb-false n (get_or l i 0) (nowhere-clear (bus_missing n l) (length l) h i p)

  pub below-nowhere : Below n l → first_below (length l) (bus_missing n l) ≡ None
  below-nowhere h = clear-nowhere (bus_missing n l) (length l) (λ i p. lt-leb n (get_or l i 0) (h i p))

  at_row : (i : ℕ) → first_below (length l) (bus_missing n l) ≡ Some i → LowestRow n l i 0
  at_row i h =
      let w = at-lowest (bus_missing n l) (length l) i h in
      record {
        inside = w.inside;
        names = leb-true n (get_or l i 0) w.passes;
        lower = λ j p. leb-false n (get_or l j 0) (w.lower j p);
        one_field = refl;
      }

  row_at : (i f : ℕ) → LowestRow n l i f → first_below (length l) (bus_missing n l) ≡ Some i
  row_at i f w =
      lowest-at (bus_missing n l) (length l) i (record {
        inside = w.inside;
        passes = le-leb n (get_or l i 0) w.names;
        lower = λ j p. lt-leb n (get_or l j 0) (w.lower j p);
      })

-- ---- two columns of one length

module _ (n : ℕ) (a b : List ℕ) where
  either_end : (i : ℕ) → end_missing n a b i ≡ true → let f = first_field n (get_or a i 0) in ((f ≡ 0) × (n ≤ get_or a i 0)) ⊎ ((f ≡ 1) × (get_or a i 0 < n) × (n ≤ get_or b i 0))
  either_end i h = go (leb n (get_or a i 0)) refl h
    where
      go : (t : Bool) → leb n (get_or a i 0) ≡ t → end_missing n a b i ≡ true → let f = cond {A = ℕ} t 0 1 in ((f ≡ 0) × (n ≤ get_or a i 0)) ⊎ ((f ≡ 1) × (get_or a i 0 < n) × (n ≤ get_or b i 0))
      go true e h = inl (refl, leb-true n _ e)
      go false e h = inr (refl, leb-false n _ e, leb-true n _ (rw e at h))

  neither : (i : ℕ) → get_or a i 0 < n → get_or b i 0 < n → end_missing n a b i ≡ false
  neither i p q = rw (lt-leb n (get_or a i 0) p, lt-leb n (get_or b i 0) q)

  ends-below : length b ≡ length a → first_below (length a) (end_missing n a b) ≡ None → Below n a × Below n b
  ends-below same h =
      let clear = nowhere-clear (end_missing n a b) (length a) h in (
        λ i p. leb-false n (get_or a i 0) (nor-left _ (bus_missing n b i) (clear i p)),
        λ i p. leb-false n (get_or b i 0) (nor-right (bus_missing n a i) _ (clear i (rw same at p))),
      )

  below-ends : length b ≡ length a → Below n a → Below n b → first_below (length a) (end_missing n a b) ≡ None
  below-ends same h k = clear-nowhere (end_missing n a b) (length a) (λ i p. neither i (h i p) (k i (rw same p)))

  at-ends : (i : ℕ) → first_below (length a) (end_missing n a b) ≡ Some i → LowestEnd n a b i (first_field n (get_or a i 0))
  at-ends i h =
      let w = at-lowest (end_missing n a b) (length a) i h in
      record {
        inside = w.inside;
        names = either_end i w.passes;
        lower_first = λ j p. leb-false n (get_or a j 0) (nor-left _ (bus_missing n b j) (w.lower j p));
        lower_second = λ j p. leb-false n (get_or b j 0) (nor-right (bus_missing n a j) _ (w.lower j p));
      }

  ends_at : (i f : ℕ) → LowestEnd n a b i f → first_below (length a) (end_missing n a b) ≡ Some i
  ends_at i f w =
      lowest-at (end_missing n a b) (length a) i (record {
        inside = w.inside;
        passes = ⊎_elim (λ x. or-first (bus_missing n b i) (le-leb n _ x.1)) (λ x. or-last (bus_missing n a i) (le-leb n _ x.2)) w.names;
        lower = λ j p. neither j (w.lower_first j p) (w.lower_second j p);
      })

  ends-field : (i f : ℕ) → LowestEnd n a b i f → f ≡ first_field n (get_or a i 0)
  ends-field i f w = ⊎_elim (λ x. rw (le-leb n _ x.1) x.0) (λ x. rw (lt-leb n _ x.1) x.0) w.names

-- ---- what the library's `position` finds

pub column_found : (n : ℕ) (l : List ℕ) → position (λ bus. leb n bus) l ≡ first_below (length l) (bus_missing n l)
column_found n l = position_first (λ bus. leb n bus) l 0

pub ends_found : (n : ℕ) (a b : List ℕ) → length b ≡ length a → position (λ ends. leb n ends.0 || leb n ends.1) (zip a b) ≡ first_below (length a) (end_missing n a b)
ends_found n a b same =
    let fails : ℕ × ℕ → Bool = λ ends. leb n ends.0 || leb n ends.1 in
    let long : length (zip a b) ≡ length a = grind (arith, length-zip a b, same) in
    position_first fails (zip a b) (0, 0)
    ∙ ap (λ k. first_below k (λ i. fails (get_or (zip a b) i (0, 0)))) long
    ∙ first_same (length a) _ _ (λ i p. ap fails (get_or-zip a b i (0, 0) p (rw same p)))

-- ---- the four tables

module _ (t : Network) (ends : length t.branches.to ≡ length t.branches.from) (places : length t.triplets.col ≡ length t.triplets.row) where
  abbrev n : ℕ
  n = bus_count t

  -- the first row at fault of each table
  abbrev slack_row : Option ℕ
  slack_row = first_below (length t.slacks.bus) (bus_missing n t.slacks.bus)

  abbrev generator_row : Option ℕ
  generator_row = first_below (length t.generators.bus) (bus_missing n t.generators.bus)

  abbrev branch_row : Option ℕ
  branch_row = first_below (length t.branches.from) (end_missing n t.branches.from t.branches.to)

  abbrev triplet_row : Option ℕ
  triplet_row = first_below (length t.triplets.row) (end_missing n t.triplets.row t.triplets.col)

  -- where none is found the tables so far are good
  good-slacks : slack_row ≡ None → SlacksNamed t
  good-slacks = nowhere-below n t.slacks.bus

  good-generators : slack_row ≡ None → generator_row ≡ None → GeneratorsNamed t
  good-generators r g = (good-slacks r, nowhere-below n t.generators.bus g)

  good-branches : slack_row ≡ None → generator_row ≡ None → branch_row ≡ None → BranchesNamed t
  good-branches r g l = let b = ends-below n t.branches.from t.branches.to ends l in (good-generators r g, b.0, b.1)

  -- what is told of them all
  abbrev joined : Option ℕ → Option ℕ → Option ℕ → Option ℕ → Option MissingBus
  joined r g l y =
      or_next (row_in Slack (λ i. 0) r)
      (or_next (row_in Generator (λ i. 0) g)
      (or_next (row_in Branch (λ i. first_field n (get_or t.branches.from i 0)) l) (row_in Triplet (λ i. first_field n (get_or t.triplets.row i 0)) y)))

  -- the row told is at fault, and no lower row, field or table is
  pub missing-means : Means t (missing_in t)
  unfolding missing_in in_column in_ends
  missing-means = told slack_row generator_row branch_row triplet_row refl refl refl refl
    where
      told : (r g l y : Option ℕ) → slack_row ≡ r → generator_row ≡ g → branch_row ≡ l → triplet_row ≡ y
          → Means t (joined r g l y)
      told (Some i) g l y er eg el ey = at_row n t.slacks.bus i er
      told None (Some i) l y er eg el ey = (good-slacks er, at_row n t.generators.bus i eg)
      told None None (Some i) y er eg el ey = (good-generators er eg, at-ends n t.branches.from t.branches.to i el)
      told None None None (Some i) er eg el ey = (good-branches er eg el, at-ends n t.triplets.row t.triplets.col i ey)
      told None None None None er eg el ey =
          let b = ends-below n t.triplets.row t.triplets.col places ey in
          (good-branches er eg el, b.0, b.1)

  no_slack_lem : SlacksNamed t → slack_row ≡ None
  no_slack_lem = below-nowhere n t.slacks.bus

  no-generator : GeneratorsNamed t → generator_row ≡ None
  no-generator h = below-nowhere n t.generators.bus h.1

  no-branch : BranchesNamed t → branch_row ≡ None
  no-branch h = below-ends n t.branches.from t.branches.to ends h.1 h.2

  no-triplet : TripletsNamed t → triplet_row ≡ None
  no-triplet h = below-ends n t.triplets.row t.triplets.col places h.1 h.2

  -- and no other row is meant
  pub means-missing : (m : Option MissingBus) → Means t m → m ≡ missing_in t
  unfolding missing_in in_column in_ends
  means-missing (Some at) h = go at.table at.row at.field h
    where
      go : (table : Naming) (i f : ℕ) → MeansIn t table i f → Some (missing_at table i f) ≡ missing_by n t.slacks.bus t.generators.bus t.branches.from t.branches.to t.triplets.row t.triplets.col
      go Slack i f h = rw (row_at n _ i f h, h.one_field)
      go Generator i f h = rw (no_slack_lem h.0, row_at n _ i f h.1, h.1.one_field)
      go Branch i f h = rw (no_slack_lem h.0.0, no-generator h.0, ends_at n _ _ i f h.1, ends-field n _ _ i f h.1)
      go Triplet i f h =
          let b = h.0 in
          rw (no_slack_lem b.0.0, no-generator b.0, no-branch b, ends_at n _ _ i f h.1, ends-field n _ _ i f h.1)
  means-missing None h = let b = h.0 in rw (no_slack_lem b.0.0, no-generator b.0, no-branch b, no-triplet h)

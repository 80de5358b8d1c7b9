-- 02, Ask 1: which row names a bus that is not in the case.
pub mod Laws
use Rattle.std.specs.Prelude.{ℕ, ◌≤◌, ◌<◌, ◌≡◌, Bool, ◌||◌, cond, List, ◌⊎◌, leb, length, get_or, Option, Some, None}
use Rattle.real.specs.First.{first_below}
use Rattle.network.specs.Below.{Below}
use Rattle.network.specs.Network.{Network, bus_count}
use Rattle.network.specs.declared.Naming.{Naming}
use Rattle.network.specs.declared.Naming.TheVariants.{Slack, Generator, Branch, Triplet}
use Rattle.network.specs.declared.MissingBus.{MissingBus}

-- ---- as tests

-- "a bus number not below the bus count", in row i of a column
abbrev pub bus_missing : ℕ → List ℕ → ℕ → Bool
bus_missing n l i = leb n (get_or l i 0)

-- of a row with two bus numbers, either one
abbrev pub end_missing : ℕ → List ℕ → List ℕ → ℕ → Bool
end_missing n a b i = bus_missing n a i || bus_missing n b i

-- "its first field at fault, 0 or 1": 0 where the first bus number is missing
abbrev pub first_field : ℕ → ℕ → ℕ
first_field n bus = cond (leb n bus) 0 1

abbrev pub missing_at : Naming → ℕ → ℕ → MissingBus
missing_at table row field = record { table = table; row = row; field = field }

-- a row that was found, with its field
abbrev pub row_in : Naming → (ℕ → ℕ) → Option ℕ → Option MissingBus
row_in table field (Some i) = Some (missing_at table i (field i))
row_in table field None = None

-- "The lowest row is told": of a table whose rows name one bus, and of one whose rows name two
unfoldable pub in_column : ℕ → Naming → List ℕ → Option MissingBus
in_column n table l = row_in table (λ i. 0) (first_below (length l) (bus_missing n l))

unfoldable pub in_ends : ℕ → Naming → List ℕ → List ℕ → Option MissingBus
in_ends n table a b = row_in table (λ i. first_field n (get_or a i 0)) (first_below (length a) (end_missing n a b))

-- the one found, or else the next
abbrev pub or_next : Option MissingBus → Option MissingBus → Option MissingBus
or_next (Some at) next = Some at
or_next None next = next

-- slack rows, generators, branches, triplets, "in that order"
abbrev pub missing_by : ℕ → List ℕ → List ℕ → List ℕ → List ℕ → List ℕ → List ℕ → Option MissingBus
missing_by n slacks generators from to row col =
    or_next (in_column n Slack slacks) (or_next (in_column n Generator generators) (or_next (in_ends n Branch from to) (in_ends n Triplet row col)))

unfoldable pub missing_in : Network → Option MissingBus
missing_in t = missing_by (bus_count t) t.slacks.bus t.generators.bus t.branches.from t.branches.to t.triplets.row t.triplets.col

-- ---- as facts

-- row i is the lowest that names a missing bus, in a table whose rows have one bus number
pub record LowestRow (n : ℕ) (l : List ℕ) (i field : ℕ) : Type 0 where
  pub inside : i < length l
  pub names : n ≤ get_or l i 0
  pub lower : (j : ℕ) → j < i → get_or l j 0 < n
  pub one_field : field ≡ 0

-- the same of a row with two bus numbers: field 0, or field 1 where the first of them is not missing
pub record LowestEnd (n : ℕ) (a b : List ℕ) (i field : ℕ) : Type 0 where
  pub inside : i < length a
  pub names : ((field ≡ 0) × (n ≤ get_or a i 0)) ⊎ ((field ≡ 1) × (get_or a i 0 < n) × (n ≤ get_or b i 0))
  pub lower_first : (j : ℕ) → j < i → get_or a j 0 < n
  pub lower_second : (j : ℕ) → j < i → get_or b j 0 < n

-- each bus number is below the bus count: of the slack rows; of generators too; of branches too; of triplets too
abbrev pub SlacksNamed : Network → Type 0
SlacksNamed t = Below (bus_count t) t.slacks.bus

abbrev pub GeneratorsNamed : Network → Type 0
GeneratorsNamed t = SlacksNamed t × Below (bus_count t) t.generators.bus

abbrev pub BranchesNamed : Network → Type 0
BranchesNamed t = GeneratorsNamed t × Below (bus_count t) t.branches.from × Below (bus_count t) t.branches.to

abbrev pub TripletsNamed : Network → Type 0
TripletsNamed t = BranchesNamed t × Below (bus_count t) t.triplets.row × Below (bus_count t) t.triplets.col

-- what an answer means: its row is the lowest at fault of its table, and no table before it has one
abbrev pub MeansIn : Network → Naming → ℕ → ℕ → Type 0
MeansIn t Slack i f = LowestRow (bus_count t) t.slacks.bus i f
MeansIn t Generator i f = SlacksNamed t × LowestRow (bus_count t) t.generators.bus i f
MeansIn t Branch i f = GeneratorsNamed t × LowestEnd (bus_count t) t.branches.from t.branches.to i f
MeansIn t Triplet i f = BranchesNamed t × LowestEnd (bus_count t) t.triplets.row t.triplets.col i f

abbrev pub Means : Network → Option MissingBus → Type 0
Means t (Some at) = MeansIn t at.table at.row at.field
Means t None = TripletsNamed t

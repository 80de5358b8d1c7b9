-- 01, "References": islands are numbered by first bus. The later slack row of an island sets its reference; no slack gives 0.0.
pub mod Laws
use Rattle.std.specs.Prelude.{ℕ, zero, suc, ◌<◌, cond, List, eqb, length, get_or, Float, Option, None, Some, ◌≡◌}
use Rattle.std.specs.Float.{nan}
use Rattle.real.specs.Literals.{nought}
use Rattle.layout.specs.Table.{table}
use Rattle.islands.specs.Islands.{label_of}
use Rattle.starts.specs.declared.References.{References}

-- of the island numbered l, what the later of the first k slack rows at its buses gives: f of the row, or z where there is none. `label` numbers the
-- buses' islands
unfoldable pub later_row : {A : Type 0} → ℕ → List ℕ → (ℕ → ℕ) → (ℕ → A) → A → ℕ → A
later_row zero slacks label f z l = z
later_row (suc k) slacks label f z l = cond (eqb l (label (get_or slacks k 0))) (f k) (later_row k slacks label f z l)

-- its slack, if it has one, and its reference
abbrev pub slack_of : ℕ → List ℕ → (ℕ → ℕ) → ℕ → Option ℕ
slack_of k slacks label = later_row k slacks label (λ i. Some (get_or slacks i 0)) None

abbrev pub angle_of : ℕ → List ℕ → List Float → (ℕ → ℕ) → ℕ → Float
angle_of k slacks angles label = later_row k slacks label (λ i. get_or angles i nan) nought

-- of bus b: its island's slack, and its island's reference angle
abbrev pub slack_for : List ℕ → List ℕ → List ℕ → ℕ → Option ℕ
slack_for slacks from to b = slack_of (length slacks) slacks (label_of from to) (label_of from to b)

abbrev pub reference_for : List ℕ → List Float → List ℕ → List ℕ → ℕ → Float
reference_for slacks angles from to b = angle_of (length slacks) slacks angles (label_of from to) (label_of from to b)

unfoldable pub references_of : ℕ → List ℕ → List Float → List ℕ → List ℕ → References
references_of n slacks angles from to =
    record { slack = table n None (slack_for slacks from to); va = table n nought (reference_for slacks angles from to) }

-- the same by the number of the island, with the buses' labels in a table
abbrev pub by_island_to : ℕ → List ℕ → List Float → List ℕ → References
by_island_to k slacks angles labels =
    record {
      slack = table 32 None (slack_of k slacks (λ b. get_or labels b 0));
      va = table 32 nought (angle_of k slacks angles (λ b. get_or labels b 0));
    }

abbrev pub by_island : List ℕ → List Float → List ℕ → References
by_island slacks angles labels = by_island_to (length slacks) slacks angles labels

-- the label of each row's bus has a place
abbrev pub Numbered : List ℕ → List ℕ → Type 0
Numbered slacks labels = (i : ℕ) → i < length slacks → get_or labels (get_or slacks i 0) 0 < 32

-- each of the n buses has a slack among them, or none
abbrev pub SlacksBelow : ℕ → References → Type 0
SlacksBelow n r = (b s : ℕ) → b < n → get_or r.slack b None ≡ Some s → s < n

-- The kinds as a loop over the slack rows makes them; and what a bus's kind says. Assumes nothing.
use Rattle.std.specs.Prelude.{ℕ, suc, ◌+◌, ◌≤◌, ◌<◌, ◌≡◌, refl, Bool, true, false, ◌||◌, cond, List, eqb, length, get_or, set, replicate}
use Rattle.std.proofs.Common.{◌∙◌, add-one}
use Rattle.real.specs.Any.{any_below}
use Rattle.layout.specs.declared.BusKind.{BusKind}
use Rattle.layout.specs.declared.BusKind.TheVariants.{Slack, Pq}
use Rattle.layout.specs.Table.{table}
use Rattle.layout.specs.Table.Laws.{table_at, table-set, stores-ext}
use Rattle.layout.specs.Kinds.{flag_kind, listed, kind_at, kinds_of}

pub kinds-begin : (n : ℕ) (flags slacks : List ℕ) → table n Pq (λ b. flag_kind (get_or flags b 0)) ≡ table n Pq (kind_at 0 flags slacks)
unfolding any_below
kinds-begin n flags slacks = refl

either : (a b : Bool) (x y : BusKind) → cond a x (cond b x y) ≡ cond (b || a) x y
either true true x y = refl
either true false x y = refl
either false true x y = refl
either false false x y = refl

pub kinds-row : (n i : ℕ) (flags slacks : List ℕ) → get_or slacks i 0 < n → n ≤ 32
    → set (table n Pq (kind_at i flags slacks)) (get_or slacks i 0) Slack ≡ table n Pq (kind_at (i + 1) flags slacks)
unfolding any_below
kinds-row n i flags slacks p h =
    table-set n Pq (kind_at i flags slacks) (get_or slacks i 0) Slack p h
    ∙ rw add-one (stores-ext _ (kind_at (suc i) flags slacks) n (replicate 32 Pq) (λ b q. either (eqb b (get_or slacks i 0)) (listed i slacks b) Slack (flag_kind (get_or flags b 0))))

pub kinds-end : (n : ℕ) (flags slacks : List ℕ) → table n Pq (kind_at (length slacks) flags slacks) ≡ kinds_of n flags slacks
unfolding kinds_of
kinds-end n flags slacks = refl

-- the kind of a bus
pub kinds-at : (n : ℕ) (flags slacks : List ℕ) (b : ℕ) (d : BusKind) → b < n → n ≤ 32 → get_or (kinds_of n flags slacks) b d ≡ kind_at (length slacks) flags slacks b
unfolding kinds_of
kinds-at n flags slacks b d p h = table_at n Pq (kind_at (length slacks) flags slacks) b d p h

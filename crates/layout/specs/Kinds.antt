-- 01, "Kinds": Q, then V where flagged (byte V; any other is Q), then slack where listed.
pub mod Laws
use Rattle.std.specs.Prelude.{ℕ, Bool, cond, List, eqb, length, get_or}
use Rattle.real.specs.Any.{any_below}
use Rattle.layout.specs.declared.BusKind.{BusKind}
use Rattle.layout.specs.declared.BusKind.TheVariants.{Slack, Pv, Pq}
use Rattle.layout.specs.Table.{table}

-- the kind as its letter's byte: S, V, Q
abbrev pub kind_letter : BusKind → ℕ
kind_letter Slack = 83
kind_letter Pv = 86
kind_letter Pq = 81

-- V where flagged: byte 86 is the letter V
abbrev pub flag_kind : ℕ → BusKind
flag_kind byte = cond (eqb byte 86) Pv Pq

-- whether bus b stands among the first k of these
abbrev pub listed : ℕ → List ℕ → ℕ → Bool
listed k buses b = any_below k (λ i. eqb b (get_or buses i 0))

-- the kind of bus b, after the first k slack rows
abbrev pub kind_at : ℕ → List ℕ → List ℕ → ℕ → BusKind
kind_at k flags slacks b = cond (listed k slacks b) Slack (flag_kind (get_or flags b 0))

unfoldable pub kinds_of : ℕ → List ℕ → List ℕ → List BusKind
kinds_of n flags slacks = table n Pq (kind_at (length slacks) flags slacks)

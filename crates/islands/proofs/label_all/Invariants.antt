-- `islands::label_all` meets its contract. The invariant: the roots are as they were, and the buses passed have their labels. Assumes nothing.
use Prim.Native.Nat.{ℕ}
use mathlib.Core.Path.{◌≡◌}
use Rattle.real.specs.Each.{each}
use Rattle.islands.specs.Forest.{Forest}
use Rattle.islands.specs.Islands.{label_by, label_table}
use Rattle.islands.proofs.Numbering.{Numbered}
use Rattle.islands.proofs.label_all.Given as goal

abbrev pub invariant-loop-bus : goal.invariant-loop-bus
invariant-loop-bus l =
    (rank root : ℕ → ℕ) → Forest rank root l.initial.parent → Forest rank root l.parent × Numbered root l.bus l.labels × (l.out ≡ label_table l.bus (each l.bus (label_by root)))

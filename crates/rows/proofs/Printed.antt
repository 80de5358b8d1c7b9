-- An accepted section is its rows, printed; what it answers is how many they are, no more than its table has. Assumes nothing.
use Rattle.std.specs.Prelude.{◌≡◌, Ok}
use Rattle.std.proofs.Common.{sym, ◌∙◌}
use mathlib.Core.List.{List}
use Prim.Native.Nat.{ℕ, ◌≤◌}
use native.Mathlib.Omega.{arith}
use Rattle.std.proofs.Math.ListN.{length}
use Rattle.fields.specs.Cut.{pieces}
use Rattle.rows.specs.Asked.{size_of}
use Rattle.rows.specs.Rows.{check_of, rows_of}
use Rattle.rows.specs.Rows.Laws.{pieces-some}
use Rattle.rows.specs.Printed.{field_table, printed}
use Rattle.rows.specs.declared.Section.{Section}
use Rattle.rows.specs.Printed.Laws.{join-pieces, lines-printed, lines-count, lines-most}

-- an accepted section is its rows, printed
pub section-printed : (z : Section) (at : ℕ) (l : List ℕ) (n : ℕ) → check_of z at l ≡ Ok n → l ≡ printed z (field_table l)
section-printed z at l n h = sym (join-pieces 10 l) ∙ lines-printed z 0 at (pieces 10 l) n (pieces-some 10 l) h

-- what an accepted section answers is the number of its rows
pub section-rows : (z : Section) (at : ℕ) (l : List ℕ) (n : ℕ) → check_of z at l ≡ Ok n → n ≡ length (rows_of l)
section-rows z at l n h = let e = lines-count z 0 at (pieces 10 l) n (pieces-some 10 l) h in omega arith

-- an accepted section has no more rows than its table
pub section-most : (z : Section) (at : ℕ) (l : List ℕ) (n : ℕ) → check_of z at l ≡ Ok n → n ≤ size_of z
section-most z at l n h = lines-most z 0 at (pieces 10 l) n (pieces-some 10 l) (omega arith) h

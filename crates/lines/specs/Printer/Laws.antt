-- What is printed in turn. Assumes nothing.
use Rattle.std.specs.Prelude.{ℕ, ◌+◌, ◌≤◌, ◌≡◌, refl, List, [], ◌++◌}
use Rattle.std.proofs.Common.{◌∙◌, arith}
use Rattle.lines.specs.Lines.Laws.{nothing, then, same_bytes}
use Rattle.lines.specs.declared.Printer.{Printer}
use Rattle.lines.specs.Printer.{Printed}

pub nothing_printed : (p : Printer) → Printed [] 0 p p
nothing_printed p = record { wrote = nothing _ _; fits = omega arith; same = refl; long = refl }

-- bytes after bytes; the most that two prints take adds up
pub in_turn : {p q r : Printer} {a b : List ℕ} {i j : ℕ} → Printed a i p q → Printed b j q r → Printed (a ++ b) (i + j) p r
in_turn u v = record { wrote = then u.wrote v.wrote; fits = omega (arith, u.fits, v.fits); same = v.same ∙ u.same; long = v.long ∙ u.long }

pub at_most : {p q : Printer} {a b : List ℕ} {i j : ℕ} → a ≡ b → i ≤ j → Printed a i p q → Printed b j p q
at_most e h u = record { wrote = same_bytes e u.wrote; fits = omega (arith, u.fits, h); same = u.same; long = u.long }

-- `columns::piece` meets its contract: of the pieces left, piece n - k is piece n of all. Assumes nothing.
use Rattle.std.proofs.Common.{◌≡◌, ◌-◌, ◌≤◌, [], get_or}
use Rattle.std.proofs.Math.Seq.{slice}
use Rattle.fields.specs.Cut.{pieces}
use Rattle.columns.proofs.piece.Given as goal

abbrev pub invariant-loop-k : goal.invariant-loop-k
invariant-loop-k l = (l.i ≤ l.e) × (get_or (pieces 32 (slice l.i l.e l.l)) (l.n - l._k) [] ≡ get_or (pieces 32 l.l) l.n [])

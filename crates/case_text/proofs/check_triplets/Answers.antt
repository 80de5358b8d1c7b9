-- `case_text::check_triplets` meets its contract: a way for each edition. Assumes nothing.
use mathlib.Core.Path.{◌≡◌}
use mathlib.Core.Bool.{true}
use Prim.Native.Nat.{◌+◌, ◌≤◌}
use lib.ListN.{length}
use Rattle.trailer.specs.Trailer.{trailer_length, trailer_of}
use Rattle.trailer.specs.Trailer.Laws.{starts-last}
use Rattle.trailer.specs.declared.Edition.TheVariants.{First}
use Rattle.case_text.proofs.check_triplets.Goals as goal

pub check_part-requires : goal.check_part-requires
check_part-requires c =
    let a = c.args in
    let p : (a.t + trailer_length First ≤ length a.s.now) × (trailer_of First a.s.now a.t ≡ true) = rw c.in-First.is at c.requires in
    (p.0, p.1, starts-last First)

pub returns-in-First : goal.returns-in-First
returns-in-First c = rw c.in-First.is c.check_part.ensures

pub returns-in-Second : goal.returns-in-Second
returns-in-Second c = rw c.in-Second.is

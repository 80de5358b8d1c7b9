-- `trailer::edition_of` meets its contract: the second edition where the byte is one of its flags, the first otherwise. Assumes nothing.
use Rattle.std.proofs.Common.{◌≡◌, ℕ, ◌-◌, List, Bool, Option, is_some, length, get_or, sym, ap, ◌∙◌, arith}
use Rattle.starts.specs.declared.AcStart.{AcStart}
use Rattle.trailer.specs.Trailer.{flagged, asked_of, trailer_length}
use Rattle.trailer.specs.Trailer.Laws.{edition-second, edition-unflagged, edition-short, asked-flagged}
use Rattle.trailer.specs.declared.Edition.TheVariants.{Second}
use Rattle.trailer.proofs.edition_of.Goals as goal
use Rattle.trailer.proofs.edition_of.Goals.{else-w-n-via-then-w-n+else-is_some, else-w-n-via-else-w-n}

-- what the two calls say of the byte
flag : (s : List ℕ) (w : ℕ) → w ≡ trailer_length Second → (r : Option AcStart) → r ≡ asked_of Second (get_or s (length s - w) 0) → (b : Bool) → b ≡ is_some r
    → flagged Second (get_or s (length s - trailer_length Second) 0) ≡ b
flag s w p r q b h = rw (← p) (sym (asked-flagged Second (get_or s (length s - w) 0)) ∙ sym (h ∙ ap is_some q))

pub returns-then-is_some : goal.returns-then-is_some
returns-then-is_some c =
    let w = c.width-w in
    sym (edition-second c.args.s.now (omega arith) (flag c.args.s.now w.result w.ensures c.start.result c.start.ensures c.is_some.result c.is_some.ensures ∙ c.if-is_some.true))

pub returns : goal.returns
returns c =
    let w = c.width-w in
    elim c.else-w-n.branch [
      | else-w-n-via-then-w-n+else-is_some v ↦
          sym (edition-unflagged c.args.s.now (flag c.args.s.now w.result w.ensures v.start.result v.start.ensures v.is_some.result v.is_some.ensures ∙ v.if-is_some.false))
      | else-w-n-via-else-w-n v ↦ sym (edition-short c.args.s.now (omega arith))
    ]

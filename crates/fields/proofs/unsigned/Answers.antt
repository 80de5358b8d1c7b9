-- `fields::unsigned` meets its contract: the point cuts the field as the definition does. Assumes nothing.
use Rattle.std.proofs.Common.{◌≡◌, ℕ, ◌+◌, ◌<◌, ◌≤◌, true, false, List, length, take, ap, ◌∙◌, arith}
use Rattle.std.proofs.Math.Seq.{slice, take-length}
use Rattle.fields.specs.Cut.{upto, past, has, Found}
use Rattle.fields.specs.Cut.Laws.{slice-part, slice-none, slice-some}
use Rattle.fields.proofs.unsigned.Goals as goal

-- what `find` says of a whole field
module _ (f : List ℕ) (p : ℕ) (h : Found f 0 (length f) 46 p) where
  pointed : p < length f → has 46 f ≡ true
  pointed i = rw take-length at (h.hit i)

  pointless : length f ≤ p → has 46 f ≡ false
  pointless i = rw take-length at (h.none i)

  front : take p f ≡ upto 46 f
  front = rw take-length at h.front

  back : p < length f → slice (p + 1) (length f) f ≡ past 46 f
  back i = h.back i ∙ ap (past 46) (take-length f)

pub returns-then-p-e : goal.returns-then-p-e
returns-then-p-e c =
    let f = c.args.f.now in
    rw (pointless f c.find-p.result c.find-p.ensures (omega arith)) c.amount.ensures

pub returns-then-p-e-2 : goal.returns-then-p-e-2
returns-then-p-e-2 c =
    let f = c.args.f.now in
    let p = c.find-p.result in
    rw (pointed f p c.find-p.ensures (omega arith), ← back f p c.find-p.ensures (omega arith), slice-none f (p + 1) (length f) (omega arith))

pub returns : goal.returns
returns c =
    let f = c.args.f.now in
    let p = c.find-p.result in
    let h = c.find-p.ensures in
    rw (pointed f p h (omega arith), ← back f p h (omega arith), slice-some f (p + 1) (length f) (omega arith) (omega arith), ← front f p h, ← slice-part f (p + 1) (length f) (omega arith))
    c.amount-2.ensures

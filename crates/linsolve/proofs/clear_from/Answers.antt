-- `linsolve::clear_from` meets its contract: a fill of n places is n stores, one after the other. Assumes nothing.
use Rattle.std.proofs.Common.{◌≡◌, ℕ, zero, suc, ◌+◌, ◌≤◌, List, length, replicate, take, drop, refl, arith, add-one, length-take, length-drop, append_assoc}
use Rattle.std.proofs.lemmas.List.{length-replicate, drop-drop}
use Rattle.std.proofs.lemmas.List.Edits.{sets, sets-eq}
use borrow.Rule.Slice.PartMut.{put_mid}
use lib.Ieee.{Float}
use Rattle.real.specs.Literals.{nought}
use Rattle.linsolve.specs.Linear.{zeroed}
use Rattle.linsolve.proofs.clear_from.Goals as goal

stores : (n i : ℕ) (w : List Float) → zeroed n i w ≡ sets w i (replicate n nought)
unfolding zeroed
stores zero i w = refl
stores (suc n) i w = rw (stores n (i + 1)) (rw add-one refl)

filled : (n i m : ℕ) (w : List Float) → m ≡ n → i + n ≤ length w → put_mid i m w (replicate (length (take m (drop i w))) nought) ≡ zeroed n i w
filled n i m w e h =
    let l : length (take n (drop i w)) ≡ n = omega (arith, length-take {A = Float}, length-drop {A = Float}) in
    let k : length (replicate n nought) ≡ n = length-replicate n nought in
    rw (e, l, stores n i w, sets-eq (replicate n nought) w i (omega arith), k, drop-drop) (simp append_assoc)

pub returns : goal.returns
returns c = rw (c.fill.ensures.after (λ y e. e)) (filled _ _ _ _ (omega arith) (omega arith))

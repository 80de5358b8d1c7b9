-- `trig::by_quarter` meets its contract: each arm is a case of `turned`. Assumes nothing.
use Rattle.std.proofs.Common.{◌≡◌, ℕ, zero, suc, refl, arith}
use lib.Ieee.{Float, neg}
use Rattle.trig.specs.Sine.{turned, pair}
use Rattle.trig.proofs.by_quarter.Goals as goal

rest : (q : ℕ) (s c : Float) → (q ≡ 0 → ⊥) → (q ≡ 1 → ⊥) → (q ≡ 2 → ⊥) → pair (neg c) s ≡ turned q s c
unfolding turned
rest zero s c x y z = absurd (x refl)
rest (suc zero) s c x y z = absurd (y refl)
rest (suc (suc zero)) s c x y z = absurd (z refl)
rest (suc (suc (suc q))) s c x y z = refl

pub returns-in-0 : goal.returns-in-0
unfolding turned
returns-in-0 c = rw c.in-0.is

pub returns-in-1 : goal.returns-in-1
unfolding turned
returns-in-1 c = rw c.in-1.is

pub returns-in-2 : goal.returns-in-2
unfolding turned
returns-in-2 c = rw c.in-2.is

pub returns-in_default : goal.returns-in_default
unfolding pair
returns-in_default c = let a = c.args in rest a.q a.s a.c (omega arith) (omega arith) (omega arith)

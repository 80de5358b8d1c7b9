-- `trig::horner` meets its contract. Assumes nothing.
use Rattle.std.proofs.Common.{◌≡◌, ℕ, zero, suc, ◌+◌, ◌-◌, ◌<◌, List, [], ◌∷◌, length, get_or, drop, refl, arith}
use lib.Ieee.{Float, nan, binary64, add, mul}
use Rattle.trig.specs.Sine.{horner}
use Rattle.trig.proofs.horner.Goals as goal

-- the last coefficient alone
at-last : (z : Float) (i : ℕ) (s : List Float) → i + 1 ≡ length s → get_or s i nan ≡ horner z (drop i s)
unfolding horner
at-last z i [] h = absurd (omega arith)
at-last z zero (c ∷ []) h = refl
at-last z zero (c ∷ (d ∷ s)) h = absurd (omega arith)
at-last z (suc i) (c ∷ s) h = at-last z i s (omega arith)

-- one coefficient more
one-more : (z : Float) (i : ℕ) (s : List Float) → suc i < length s → add binary64 (get_or s i nan) (mul binary64 z (horner z (drop (suc i) s))) ≡ horner z (drop i s)
unfolding horner
one-more z i [] h = absurd (omega arith)
one-more z zero (c ∷ []) h = absurd (omega arith)
one-more z zero (c ∷ (d ∷ s)) h = refl
one-more z (suc i) (c ∷ s) h = one-more z i s (omega arith)

pub loop-i-init : goal.loop-i-init
loop-i-init c = at-last c.args.z _ c.args.coefficients.now (omega arith)

pub loop-i-preserved : goal.loop-i-preserved
loop-i-preserved c =
    let i = c.loop-i.i - 1 in
    let e : c.loop-i.i ≡ suc i = omega arith in
    rw (rw e at c.loop-i.invariant) (one-more c.args.z i c.args.coefficients.now (omega arith))

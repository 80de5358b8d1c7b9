-- `real::is_finite` meets its contract: a finite double lies strictly between the infinities. Assumes nothing.
use mathlib.Core.Path.{◌≡◌, refl, sym}
use mathlib.Core.Bool.{true, false, true≢false}
use lib.Ieee.{Float, nan, inf, fin, lt, of_bits, div, neg}
use lib.Ieee.Scale.{finite}
use Rattle.real.proofs.is_finite.Goals as goal

above : (x : Float) → lt x (inf false) ≡ true → lt (inf true) x ≡ finite x
unfolding lt
above nan h = refl
above (inf true) h = refl
above (inf false) h = absurd (true≢false (sym h))
above (fin s m e) h = refl

not_below : (x : Float) → lt x (inf false) ≡ false → false ≡ finite x
unfolding lt
not_below nan h = refl
not_below (inf s) h = refl
not_below (fin s m e) h = absurd (true≢false h)

pub returns-then-x : goal.returns-then-x
unfolding of_bits div neg
returns-then-x c = above c.args.x c.if-x.true

pub returns : goal.returns
unfolding of_bits div
returns c = not_below c.args.x c.if-x.false

-- `trig::horner` meets its contract. The invariant: the sum is that of the coefficients passed. Assumes nothing.
use Rattle.std.proofs.Common.{◌≡◌, drop}
use Rattle.trig.specs.Sine.{horner}
use Rattle.trig.proofs.horner.Given as goal

abbrev pub invariant-loop-i : goal.invariant-loop-i
invariant-loop-i l = l.sum ≡ horner l.z (drop l.i l.coefficients)

-- The smallest case in which two diagonal triplets on one bus count the current twice, computed: a V bus at 1 with the admittance j + j.
-- Assumes nothing.
use mathlib.Core.Path.{◌≡◌, refl}
use mathlib.Core.List.{List, [], ◌∷◌}
use lib.ListN.{replicate}
use lib.Ieee.{Float, of_int, of_bits, add, sub, mul}
use Rattle.real.specs.Literals.{double, nought}
use Rattle.complex.specs.Numbers.{complex}
use Rattle.layout.specs.declared.AcPfLayout.{AcPfLayout}
use Rattle.layout.specs.Layout.{none}
use Rattle.linsolve.specs.Linear as Linear
use Rattle.injections.specs.declared.Phasors.{Phasors}
use Rattle.network.specs.Network.{Triplets, triplets_of}
use Rattle.injections.specs.Injections.{at, currents_to}
use Rattle.injections.specs.Jacobian.{jacobian_of, jacobian_to}

-- j twice, and 2 j once
abbrev pub twice : Triplets
twice = triplets_of (0 ∷ 0 ∷ []) (0 ∷ 0 ∷ []) (double 0 ∷ double 0 ∷ []) (double 1 ∷ double 1 ∷ [])

abbrev pub once : Triplets
once = triplets_of (0 ∷ []) (0 ∷ []) (double 0 ∷ []) (double 2 ∷ [])

-- the voltage 1, and the current 2 j that either drives
abbrev pub phasors : Phasors
phasors = record { v = complex (double 1) (double 0) ∷ []; i = complex (double 0) (double 2) ∷ [] }

-- one unknown: the angle
abbrev pub lone : AcPfLayout
lone = record { n = 1; va_of = 0 ∷ []; vm_of = none ∷ []; dim = 1 }

abbrev pub space : List Float
space = replicate 64 nought

pub current-of-twice : at (currents_to 2 twice phasors.v) 0 ≡ at phasors.i 0
unfolding currents_to of_int of_bits add sub mul
current-of-twice = refl

pub current-of-once : at (currents_to 1 once phasors.v) 0 ≡ at phasors.i 0
unfolding currents_to of_int of_bits add sub mul
current-of-once = refl

pub counted-twice : Linear.at (jacobian_of twice (double 0 ∷ []) phasors lone space) 0 ≡ double 2
unfolding jacobian_to of_int of_bits add sub mul
counted-twice = refl

pub counted-once : Linear.at (jacobian_of once (double 0 ∷ []) phasors lone space) 0 ≡ double 0
unfolding jacobian_to of_int of_bits add sub mul
counted-once = refl

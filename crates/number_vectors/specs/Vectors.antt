-- What it means that a vector agrees, and what the program counts.
use Rattle.std.specs.Prelude.{◌≡◌, Bool, true, false, List, ℕ, ◌+◌, ◌*◌, ◌≤◌, ◌<◌, eqb}
use Rattle.vectors.specs.Words.{word_of, double_at}
use Rattle.trig.specs.Sine.{pair, sin_cos_of}
use Rattle.mix.specs.Noise.{mix_of}

-- x, its sine, its cosine
abbrev pub SinCosHolds : List ℕ → ℕ → Type 0
SinCosHolds s at = sin_cos_of (double_at at s) ≡ pair (double_at (at + 8) s) (double_at (at + 16) s)

-- a, b, mix(a, b)
abbrev pub MixHolds : List ℕ → ℕ → Type 0
MixHolds s at = mix_of (word_of at s) (word_of (at + 8) s) ≡ double_at (at + 16) s

abbrev pub HoldsBy : Bool → List ℕ → ℕ → Type 0
HoldsBy true s at = SinCosHolds s at
HoldsBy false s at = MixHolds s at

-- a vector of 32 bytes: 0 for a sine and a cosine, else a mix, and then its three words
abbrev pub Holds : List ℕ → ℕ → Type 0
Holds s at = HoldsBy (eqb (word_of at s) 0) s (at + 8)

-- r of the n vectors agree before the first that does not
pub record Agreeing (s : List ℕ) (n r : ℕ) : Type 0 where
  pub within : r ≤ n
  pub before : (k : ℕ) → k < r → Holds s (k * 32)
  pub first : r < n → Holds s (r * 32) → ⊥

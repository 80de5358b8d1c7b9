-- What the input says of a point of n buses and m triplets: rows, columns, real and imaginary parts of the triplets; magnitudes and angles; the
-- layout's two tables; then what has to come out: voltages, currents, powers, and dim rows of dim entries of the matrix. Eight bytes each.
use Rattle.std.specs.Prelude.{ℕ, ◌+◌, ◌*◌, ◌≤◌, ◌<◌, ◌/◌, ◌%◌, ◌≡◌, cond, List, ltb, length, get_or, Float}
use Rattle.std.specs.Float.{nan}
use Rattle.real.specs.Each.{each}
use Rattle.real.specs.Literals.{nought}
use Rattle.vectors.specs.Words.{word_of, double_at}
use Rattle.layout.specs.declared.AcPfLayout.{AcPfLayout}
use Rattle.network.specs.Below.{Below}
use Rattle.layout.specs.Table.{table}
use Rattle.layout.specs.Layout.{none}
use Rattle.complex.specs.declared.Complex.{Complex}
use Rattle.complex.specs.Numbers.{complex, zero}
use Rattle.injections.specs.declared.Injections.{Injections}
use Rattle.network.specs.Network.{Triplets, triplets_of}
use Rattle.injections.specs.Injections.{phasors_of, injections_of}
use Rattle.injections.specs.Jacobian.{jacobian_of}

-- the word and the double at place k of those that begin at a byte
abbrev pub word_told : List ℕ → ℕ → ℕ → ℕ
word_told s from k = word_of (from + k * 8) s

abbrev pub double_told : List ℕ → ℕ → ℕ → Float
double_told s from k = double_at (from + k * 8) s

-- lists of m
abbrev pub words_told : List ℕ → ℕ → ℕ → List ℕ
words_told s from m = each m (word_told s from)

abbrev pub doubles_told : List ℕ → ℕ → ℕ → List Float
doubles_told s from m = each m (double_told s from)

-- tables of n
abbrev pub table_told : List ℕ → ℕ → ℕ → List Float
table_told s from n = table n nought (double_told s from)

abbrev pub columns_told : List ℕ → ℕ → ℕ → List ℕ
columns_told s from n = table n none (word_told s from)

-- the real parts of all n come first, then the imaginary parts
abbrev pub complex_told : List ℕ → ℕ → ℕ → ℕ → Complex
complex_told s from n b = complex (double_told s from b) (double_told s (from + n * 8) b)

abbrev pub column_told : List ℕ → ℕ → ℕ → List Complex
column_told s from n = table n zero (complex_told s from n)

abbrev pub layout_told : List ℕ → ℕ → ℕ → ℕ → AcPfLayout
layout_told s from n dim =
    record {
      n = n;
      va_of = columns_told s from n;
      vm_of = columns_told s (from + n * 8) n;
      dim = dim;
    }

unfoldable pub injections_told : List ℕ → ℕ → ℕ → Injections
injections_told s from n =
    record {
      phasors = record { v = column_told s from n; i = column_told s (from + n * 16) n };
      power = record { p = table_told s (from + n * 32) n; q = table_told s (from + n * 40) n };
    }

unfoldable pub triplets_told : List ℕ → ℕ → Triplets
triplets_told s m = triplets_of (words_told s 0 m) (words_told s (m * 8) m) (doubles_told s (m * 16) m) (doubles_told s (m * 24) m)

-- the place i of the workspace: the block of dim rows and columns is told row by row; every other is 0.0
unfoldable pub place_told : List ℕ → ℕ → ℕ → ℕ → Float
place_told s from dim i = cond (ltb (i / 64) dim) (cond (ltb (i % 64) dim) (double_told s from ((i / 64) * dim + i % 64)) nought) nought

-- a workspace of 4,224 places, 64 more than the solve uses, all of them 0.0
pub record Zeros (w : List Float) : Type 0 where
  pub size : length w ≡ 4224
  pub each : (i : ℕ) → i < 4224 → get_or w i nan ≡ nought

abbrev pub Holds : List Float → List ℕ → ℕ → ℕ → Type 0
Holds w s from dim = (i : ℕ) → i < 4224 → get_or w i nan ≡ place_told s from dim i

-- the whole point stands in s
pub record Fits (s : List ℕ) (n m dim : ℕ) : Type 0 where
  pub few : n ≤ 32
  pub triplets : m ≤ 256
  pub rows : dim ≤ 64
  pub whole : m * 32 + n * 80 + dim * dim * 8 ≤ length s

abbrev pub vm_told : List ℕ → ℕ → ℕ → List Float
vm_told s n m = table_told s (m * 32) n

abbrev pub va_told : List ℕ → ℕ → ℕ → List Float
va_told s n m = table_told s (m * 32 + n * 8) n

-- the injections and the Jacobian by definition, at what is told
unfoldable pub injections_at : List ℕ → ℕ → ℕ → Injections
injections_at s n m = injections_of n (triplets_told s m) (vm_told s n m) (va_told s n m)

unfoldable pub jacobian_at : List ℕ → ℕ → ℕ → ℕ → List Float → List Float
jacobian_at s n m dim w = jacobian_of (triplets_told s m) (va_told s n m) (phasors_of n (triplets_told s m) (vm_told s n m) (va_told s n m)) (layout_told s (m * 32 + n * 16) n dim) w

-- the Jacobian, added to zeros, is what is told
abbrev pub Entries : List ℕ → ℕ → ℕ → ℕ → Type 0
Entries s n m dim = (w : List Float) → Zeros w → Holds (jacobian_at s n m dim w) s (m * 32 + n * 80) dim

-- bus numbers are below n; injections and Jacobian are what is told
pub record Agrees (s : List ℕ) (n m dim : ℕ) : Type 0 where
  pub rows : Below n (triplets_told s m).row
  pub cols : Below n (triplets_told s m).col
  pub injected : injections_at s n m ≡ injections_told s (m * 32 + n * 32) n
  pub entries : Entries s n m dim

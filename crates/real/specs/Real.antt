-- What 01 takes of the Rust's f64 ("`is_nan`, `abs`, `max` .. are worked out by the program"): is_nan is lib.Ieee's is_nan, and is_finite lib.Ieee.Scale's finite.
pub mod Laws
use Rattle.std.specs.Prelude.{false, cond}
use lib.Ieee.{Float, nan, inf, fin, lt, is_nan}

-- the absolute value: the number with its sign cleared
unfoldable pub absolute : Float → Float
absolute nan = nan
absolute (inf s) = inf false
absolute (fin s m e) = fin false m e

-- the larger of two, the first where neither is below the other
unfoldable pub larger : Float → Float → Float
larger a b = cond (lt a b) b a

-- the larger, and of a NaN and a number the number
unfoldable pub max_of : Float → Float → Float
unfolding larger
max_of a b = cond (is_nan a) b (larger a b)

-- Tables of a fixed number of places: what a loop that writes place by place leaves, and what a caller reads.
pub mod Laws
use Rattle.std.specs.Prelude.{ℕ, zero, suc, List, set, replicate}

-- f b stored at each place b below k
unfoldable pub stores : {A : Type 0} → (ℕ → A) → ℕ → List A → List A
stores f zero l = l
stores f (suc k) l = set (stores f k l) k (f k)

-- 32 places: f b at each b below n, and z past them
abbrev pub table : {A : Type 0} → ℕ → A → (ℕ → A) → List A
table n z f = stores f n (replicate 32 z)

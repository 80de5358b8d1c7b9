-- How large a matrix of a record grows, where its rows end, and how many places of a column are lent. Assumes nothing.
use Rattle.std.specs.Prelude.{ℕ, ◌+◌, ◌*◌, ◌≤◌, ◌<◌, ◌≡◌, length, take, replicate}
use Rattle.std.proofs.Common.{sym, arith, mul-le-mul, mul-le-mul_right, length-take-le}
use Rattle.std.proofs.lemmas.List.{length-replicate}

pub square : (dim : ℕ) → dim ≤ 64 → dim * dim ≤ 4096
square dim h = mul-le-mul h h

-- a row ends where the matrix does, at the latest
pub row_ends : (row dim : ℕ) → row < dim → dim + row * dim ≤ dim * dim
row_ends row dim h = omega (arith, mul-le-mul_right dim h)

-- the first m of n equal places
pub lent : {A : Type 0} (n : ℕ) {m : ℕ} (a : A) → m ≤ n → m ≡ length (take m (replicate n a))
lent n {m} a h = sym (length-take-le m (replicate n a) (rw length-replicate h))

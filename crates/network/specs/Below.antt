-- The numbers of a list, all below one: what 01 asks of the bus numbers of a table.
use Rattle.std.specs.Prelude.{ℕ, ◌<◌, List, length, get_or}

-- each number of the list is below n
abbrev pub Below : ℕ → List ℕ → Type 0
Below n l = (i : ℕ) → i < length l → get_or l i 0 < n

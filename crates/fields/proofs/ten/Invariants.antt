-- `fields::ten` meets its contract: after i turns p is the i-th product, and the k-th is 10^k. Assumes nothing.
use Rattle.std.proofs.Common.{◌≡◌}
use Rattle.fields.specs.Powers.{product}
use Rattle.fields.proofs.ten.Given as goal

abbrev pub invariant-loop-i : goal.invariant-loop-i
invariant-loop-i l = l.p ≡ product l._i

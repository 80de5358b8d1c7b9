-- `trig::rounded` meets its contract: the laws of proofs/Near.antt at its two calls and its tests. Assumes nothing.
use Rattle.std.proofs.Common.{rules}
use Rattle.trig.proofs.Near.{in-word, next_fits, up-as-is, up_next, down-next, down-as-is}
use Rattle.trig.proofs.rounded.Goals as goal

pub truncating_f64_to_u64-n-requires-clause-lower_bound : goal.truncating_f64_to_u64-n-requires-clause-lower_bound
truncating_f64_to_u64-n-requires-clause-lower_bound c = (in-word _ (c.requires.low, c.requires.high)).0

pub truncating_f64_to_u64-n-requires-clause-upper_bound : goal.truncating_f64_to_u64-n-requires-clause-upper_bound
truncating_f64_to_u64-n-requires-clause-upper_bound c = (in-word _ (c.requires.low, c.requires.high)).1

pub overflow_add-result : goal.overflow_add-result
overflow_add-result c = next_fits _ (search rules) c.truncating_f64_to_u64-n.ensures

pub overflow_add-result-then-middle-a : goal.overflow_add-result-then-middle-a
overflow_add-result-then-middle-a c = next_fits _ (search rules) c.truncating_f64_to_u64-n.ensures

pub returns-then-a-middle : goal.returns-then-a-middle
returns-then-a-middle c = rw c.in-Up.is (up-as-is (search rules) c.if-a-middle.true)

pub returns-else-a-middle : goal.returns-else-a-middle
returns-else-a-middle c = rw c.in-Up.is (up_next (search rules) c.if-a-middle.false)

pub returns-then-middle-a : goal.returns-then-middle-a
returns-then-middle-a c = rw c.in-Down.is (down-next (search rules) c.if-middle-a.true)

pub returns-else-middle-a : goal.returns-else-middle-a
returns-else-middle-a c = rw c.in-Down.is (down-as-is (search rules) c.if-middle-a.false)

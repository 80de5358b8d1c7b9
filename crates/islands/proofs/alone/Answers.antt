-- `islands::alone` meets its contract: each place holds its own number. Assumes nothing.
use Rattle.std.proofs.Common.{◌≡◌, ℕ, ◌<◌, get_or, refl, rules}
use Rattle.islands.proofs.alone.Goals as goal

pub returns : goal.returns
returns c =
    let own : (k : ℕ) → k < 32 → get_or c.from_fn.result k 0 ≡ k = (λ k h. let (p, q, r) = c.from_fn.ensures.items.at k 0 h in search rules) in
    record {
      size = c.from_fn.ensures.items.long;
      within = λ i h. rw (own i h) h;
      falls = λ i h n. absurd (n (own i h));
      along = λ i h. own i h;
      top = λ i h e. refl;
      inside = λ i h. h;
      stands = λ i h. own i h;
    }

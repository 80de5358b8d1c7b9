-- `injection_vectors::agrees` meets its contract, by its comparisons. Assumes nothing.
use Rattle.std.specs.Prelude.{ℕ, ◌≤◌, ◌≡◌, Bool, true, List, ◌&&◌}
use Rattle.std.proofs.Common.{ap}
use Rattle.real.specs.Tests.{and_left, and_right}
use Rattle.vectors.specs.Words.{Tells}
use Rattle.network.specs.Below.{Below}
use Rattle.network.specs.Network.{Triplets}
use Rattle.injections.specs.Injections.{GoodTriplets}
use Rattle.injection_vectors.specs.Told.{triplets_told}
use Rattle.injection_vectors.proofs.Agreement.{good}
use Rattle.injection_vectors.proofs.agrees.Goals as goal

-- the rows and columns that were compared are those told
checked : (s : List ℕ) (n m : ℕ) (y : Triplets) (a b : Bool) → y ≡ triplets_told s m → n ≤ 32 → Tells a (Below n y.row) → Tells b (Below n y.col) → a && b ≡ true
    → GoodTriplets n (triplets_told s m)
checked s n m y a b is few p q h =
    good s m n few (rw (← ap (λ (x : Triplets). x.row) is) (p.0 (and_left a b h))) (rw (← ap (λ (x : Triplets). x.col) is) (q.0 (and_right a b h)))

-- ---- the goals

pub injections_agree-requires : goal.injections_agree-requires
injections_agree-requires c =
    (c.requires.0, c.requires.1, checked _ _ _ _ _ _ c.requires.1 c.requires.0.few c.below.ensures c.below-2.ensures c.if-not-named.false)

pub jacobian_agrees-requires : goal.jacobian_agrees-requires
jacobian_agrees-requires c =
    (c.requires.0, c.requires.1, checked _ _ _ _ _ _ c.requires.1 c.requires.0.few c.below.ensures c.below-2.ensures c.if-not-named.false)

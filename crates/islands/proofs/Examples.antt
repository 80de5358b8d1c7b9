-- 01's example of the islands, computed: five buses with lines 0-3 and 1-2 are labelled 0, 1, 1, 0, 2. Assumes nothing.
use mathlib.Core.Path.{◌≡◌, refl}
use mathlib.Core.List.{[], ◌∷◌}
use Rattle.islands.specs.Islands.{labels_of, group_of, lowest, tally}

pub labels-of-five : labels_of 5 (0 ∷ 1 ∷ []) (3 ∷ 2 ∷ []) ≡ 0 ∷ 1 ∷ 1 ∷ 0 ∷ 2 ∷ []
unfolding labels_of group_of lowest tally
labels-of-five = refl

-- 01's example, computed: kinds S, V, Q, Q give angle columns none, 0, 1, 2 and magnitude columns none, none, 3, 4. Assumes nothing.
use mathlib.Core.Path.{◌≡◌, refl}
use mathlib.Core.List.{List, [], ◌∷◌}
use lib.ListN.{take, replicate}
use Rattle.layout.specs.declared.BusKind.{BusKind}
use Rattle.layout.specs.declared.BusKind.TheVariants.{Slack, Pv, Pq}
use Rattle.layout.specs.Table.{stores}
use Rattle.layout.specs.Layout.{none, count_to, layout_of}

abbrev pub svqq : List BusKind
svqq = Slack ∷ Pv ∷ Pq ∷ Pq ∷ replicate 28 Pq

pub angle-columns-of-svqq : take 4 (layout_of 4 svqq).va_of ≡ none ∷ 0 ∷ 1 ∷ 2 ∷ []
unfolding layout_of stores count_to
angle-columns-of-svqq = refl

pub magnitude-columns-of-svqq : take 4 (layout_of 4 svqq).vm_of ≡ none ∷ none ∷ 3 ∷ 4 ∷ []
unfolding layout_of stores count_to
magnitude-columns-of-svqq = refl

-- 01, "Tables and sizes": an answer as the table of refusals tells it.
use Rattle.std.specs.Prelude.{ℕ, Bool, true, false, List, [], ◌∷◌}
use Rattle.real.specs.declared.Value.{Value}
use Rattle.real.specs.declared.Value.TheVariants.{Whole, Real}

-- "Returned beside it", the first of them: a place, a count, a row; 0 where there is none
abbrev pub place_in : List Value → ℕ
place_in [] = 0
place_in (Whole n ∷ vs) = n
place_in (Real x ∷ vs) = 0

-- what is given where nothing is refused, or a refusal's number and the values beside it
pub data Paper (A : Type 0) : Type 0 where
  given : A → Paper A
  refused : ℕ → List Value → Paper A

-- f of what is given, z of a refusal
abbrev pub on_given : {A B : Type 0} → Paper A → (A → B) → B → B
on_given (given a) f z = f a
on_given (refused number values) f z = z

abbrev pub is_given : {A : Type 0} → Paper A → Bool
is_given r = on_given r (λ a. true) false

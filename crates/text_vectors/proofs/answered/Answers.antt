-- `text_vectors::answered` meets its contract: a refusal is told by its number and place, a good answer by what it holds. Assumes nothing.
use Rattle.std.specs.Prelude.{◌≡◌, ℕ, List, [], ◌∷◌, Option, Some, None, MatchOption}
use Rattle.std.specs.Option.{unwrap_or}
use Rattle.std.proofs.Common.{Err, ◌∙◌}
use Rattle.real.specs.Tests.{no-case}
use Rattle.real.specs.Paper.{place_in}
use Rattle.real.specs.declared.Value.{Value}
use Rattle.real.specs.declared.Value.TheVariants.{Whole}
use Rattle.case_text.specs.Answer.{refusal_values}
use Rattle.text_vectors.proofs.Papers.{refusal-paper, refusal-number}
use Rattle.text_vectors.proofs.answered.Goals as goal

-- a refusal without a place is told with 0
place-told : (o : Option ℕ) (vs : List Value) → MatchOption o (vs ≡ []) (λ at. vs ≡ Whole at ∷ []) → unwrap_or o 0 ≡ place_in vs
place-told None vs h = rw h
place-told (Some at) vs h = rw h

pub refused-requires : goal.refused-requires
refused-requires c = rw c.number.ensures (refusal-number (Err c.in-Err.r) (λ d e. no-case cc))

pub returns-in-Err : goal.returns-in-Err
returns-in-Err c =
    let place = c.unwrap_or.ensures ∙ place-told c.place.result (refusal_values c.in-Err.r) c.place.ensures in
    rw c.in-Err.is (rw (c.number.ensures, place, refusal-paper (Err c.in-Err.r) (λ d e. no-case cc)) at c.refused.ensures)

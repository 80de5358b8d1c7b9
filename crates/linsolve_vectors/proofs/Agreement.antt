-- One solve that gives what is told shows that the definition does: the input tells every place, so there is one workspace to begin from.
-- Assumes nothing.
use mathlib.Core.Path.{◌≡◌, sym, ◌∙◌}
use mathlib.Core.List.{List}
use Prim.Native.Nat.{ℕ, ◌*◌}
use lib.Ieee.{Float, nan}
use Rattle.real.specs.Each.Laws.{is-each}
use Rattle.linsolve.specs.Linear.{Answer, outcome, solution}
use Rattle.linsolve_vectors.specs.Told.{size_of, Holds, number_of, Agrees}

one-space : {w v : List Float} {s : List ℕ} {from dim : ℕ} → Holds w s from dim → Holds v s from dim → w ≡ v
one-space {w} {v} a b = is-each 4224 _ nan w a.size a.each ∙ sym (is-each 4224 _ nan v b.size b.each)

module _ (s : List ℕ) (dim answer : ℕ) (w v : List Float) (found : Answer) (began : Holds w s 0 dim) (is : outcome found v ≡ solution dim w) where
  pub agreement : number_of found ≡ answer → Holds v s (size_of dim * 8) dim → Agrees s dim answer
  agreement e left =
      record {
        answers = λ u h. rw (one-space h began, ← is) e;
        leaves = λ u h. rw (one-space h began, ← is) left;
      }

  pub agreed-answer : Agrees s dim answer → number_of found ≡ answer
  agreed-answer a = rw (← is) at (a.answers w began)

  pub agreed-space : Agrees s dim answer → Holds v s (size_of dim * 8) dim
  agreed-space a = rw (← is) at (a.leaves w began)

-- The answer by the rules of the text's own edition. Assumes nothing.
use Prim.Native.Nat.{ℕ}
use mathlib.Core.Path.{◌≡◌}
use mathlib.Core.List.{List}
use lib.Ieee.{Float}
use Rattle.fields.specs.Real.{allowed}
use Rattle.trailer.specs.Trailer.{edition_of}
use Rattle.trailer.specs.declared.Edition.{Edition}
use Rattle.outcome.specs.Outcome.{Outs}
use Rattle.answered.specs.TextAnswer.{TextAnswer, text_answer_by, text_answer_of}

pub by-edition : (s : List ℕ) (x e : Edition) → x ≡ edition_of s → x ≡ e → (a : TextAnswer) (o : Outs) (w : List Float) → a ≡ text_answer_by allowed e s o w → a ≡ text_answer_of s o w
by-edition s x e is k a o w h = rw (← is, k) h

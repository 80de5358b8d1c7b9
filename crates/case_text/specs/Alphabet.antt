-- 01: "The body's alphabet: LF, space, `-`, `.`, digits, `?` and the letters B R G L Y V Q." 02, Ask 3: "K joins the alphabet of its body alone", the second edition's.
pub mod Laws
use Rattle.std.specs.Prelude.{ℕ, suc, cond, List, [], ◌∷◌}
use Rattle.fields.specs.Cut.{has}
use Rattle.trailer.specs.declared.Edition.{Edition}
use Rattle.trailer.specs.declared.Edition.TheVariants.{First, Second}

abbrev pub alphabet : List ℕ
alphabet =
    10 ∷ 32 ∷ 45 ∷ 46 ∷ 48 ∷ 49 ∷ 50 ∷ 51 ∷ 52 ∷ 53 ∷ 54 ∷ 55 ∷ 56 ∷ 57 ∷ 63 ∷ 66 ∷ 82 ∷ 71 ∷ 76 ∷ 89 ∷ 86 ∷ 81 ∷ []

abbrev pub alphabet_of : Edition → List ℕ
alphabet_of First = alphabet
alphabet_of Second = 75 ∷ alphabet

-- how many bytes stand before the first that is not of the edition's alphabet
unfoldable pub known_of : Edition → List ℕ → ℕ
known_of e [] = 0
known_of e (b ∷ r) = cond (has b (alphabet_of e)) (suc (known_of e r)) 0

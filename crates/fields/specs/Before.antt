-- 01's digit rule, which 02's Ask 2 replaced. Nothing is read by it any more: it stands here for the promise that every text which it accepted gives the
-- same bits as before. What a definition `..By` gives of `allowed_before` is what 01 gave.
pub mod Laws
use Rattle.std.specs.Prelude.{ℕ, ◌+◌, ◌≤◌, ◌<◌, List, ◌++◌, leb, length}
use Rattle.fields.specs.Digits.{counted}
use Rattle.fields.specs.Real.{DigitRule}
use Rattle.fields.specs.Decimal.{wholes, decimals}

-- "at most 15 digits in all, leading zeros counted"
unfoldable pub allowed_before : DigitRule
allowed_before w d = leb (length w + length d) 15

-- a field that is spared its zeros in front: it has more than 15 digits in all, no more than 15 that count, and no more than 22 decimals
pub record Spared (l : List ℕ) : Type 0 where
  pub many : 15 < length (wholes l) + length (decimals l)
  pub few : length (counted (wholes l ++ decimals l)) ≤ 15
  pub places : length (decimals l) ≤ 22

-- 02, Ask 2, of a section: its check is what it was by 01's digit rule, or 01 refused a field that is now taken, and the check goes on behind it.
pub mod Laws
use Rattle.std.specs.Prelude.{ℕ, ◌<◌, ◌≡◌, true, false, List, [], length, get_or, take, drop, Result, Ok, Err}
use Rattle.fields.specs.Real.{allowed}
use Rattle.fields.specs.Before.{allowed_before}
use Rattle.rows.specs.Asked.{want_of, good_by}
use Rattle.rows.specs.declared.Section.{Section}
use Rattle.rows.specs.declared.Fault.{Fault}
use Rattle.rows.specs.Rows.{Check}

-- a refusal's place lies behind p; a good check has none
abbrev pub Behind : {A : Type 0} → ℕ → Result A Fault → Type 0
Behind p (Ok n) = Unit
Behind p (Err (Fault.Rows at)) = p < at
Behind p (Err (Fault.Form at)) = p < at
Behind p (Err (Fault.Field at)) = p < at

-- field j of row k, of the fields of each row, stands at the place p of the text s; 01's digit rule refused it, and 02's takes it
pub record Freed (s : List ℕ) (p : ℕ) (z : Section) (rows : List (List (List ℕ))) (k j : ℕ) : Type 0 where
  pub inside : k < length rows
  pub field : j < length (get_or rows k [])
  pub stands : take (length (get_or (get_or rows k []) j [])) (drop p s) ≡ get_or (get_or rows k []) j []
  pub refused : good_by allowed_before (want_of z j) (get_or (get_or rows k []) j []) ≡ false
  pub taken : good_by allowed (want_of z j) (get_or (get_or rows k []) j []) ≡ true

-- a check that was v and is v': it was refusal 5 at such a field, and no refusal at or before that field's place is left
pub record Moved (s : List ℕ) (z : Section) (rows : List (List (List ℕ))) (v v' : Check) : Type 0 where
  pub place : ℕ
  pub was : v ≡ Err (Fault.Field place)
  pub row : ℕ
  pub column : ℕ
  pub freed : Freed s place z rows row column
  pub now : Behind place v'

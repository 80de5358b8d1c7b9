-- The answer of a reading by an edition's rules: 01's number and values for each case, refusal 9, and the tables afterwards.
pub mod Laws
use Rattle.std.specs.Prelude.{ℕ, cond, List, [], ◌∷◌, Ok, Err}
use Rattle.real.specs.declared.Value.{Value}
use Rattle.real.specs.declared.Value.TheVariants.{Whole}
use Rattle.real.specs.Paper.{Paper, given, refused, on_given}
use Rattle.network.specs.declared.Rows.{Rows}
use Rattle.network.specs.Network.{Network, network_of, room_of, fits_of}
use Rattle.network.specs.BranchTable.{BranchNetwork, branch_network_of, branch_room_of}
use Rattle.fields.specs.Real.{DigitRule, allowed}
use Rattle.rows.specs.declared.Section.TheVariants as Section
use Rattle.columns.specs.Columns.{buses_by, slacks_by, generators_by, filled_branches, triplets_by, branch_table_by}
use Rattle.trailer.specs.Trailer.{trailer_start, bytes_of}
use Rattle.trailer.specs.declared.Edition.{Edition}
use Rattle.trailer.specs.declared.Edition.TheVariants.{First, Second}
use Rattle.case_text.specs.Text.{Reading, text_by, checked_text}
use Rattle.case_text.specs.declared.Contents.{Contents}
use Rattle.case_text.specs.declared.Refusal.{Refusal}

-- 01's table of the refusals: the number of each, and its place, of which 9 has none
abbrev pub refusal_number : Refusal → ℕ
refusal_number (Refusal.Length at) = 1
refusal_number (Refusal.Trailer at) = 2
refusal_number (Refusal.Byte at) = 3
refusal_number (Refusal.Rows at) = 6
refusal_number (Refusal.Form at) = 4
refusal_number (Refusal.Field at) = 5
refusal_number Refusal.Room = 9

abbrev pub refusal_values : Refusal → List Value
refusal_values (Refusal.Length at) = Whole at ∷ []
refusal_values (Refusal.Trailer at) = Whole at ∷ []
refusal_values (Refusal.Byte at) = Whole at ∷ []
refusal_values (Refusal.Rows at) = Whole at ∷ []
refusal_values (Refusal.Form at) = Whole at ∷ []
refusal_values (Refusal.Field at) = Whole at ∷ []
refusal_values Refusal.Room = []

-- what it says of an answer: what the text holds, or the refusal
abbrev pub paper_of : Reading → Paper Contents
paper_of (Ok c) = given c
paper_of (Err f) = refused (refusal_number f) (refusal_values f)

-- refusal 9: "a reader column shorter than its table's rows"
abbrev pub with_room : Reading → Rows → Reading
with_room (Ok c) m = cond (fits_of c.rows m) (Ok c) (Err Refusal.Room)
with_room (Err f) m = Err f

-- the answer and the tables afterwards
pub data ReadResult (T : Type 0) : Type 0 where
  read_result : Paper Contents → T → ReadResult T

-- "A reader refusal leaves its output columns untouched."
abbrev pub result_of : {T : Type 0} → Reading → T → T → ReadResult T
result_of v filled old = read_result (paper_of v) (on_given (paper_of v) (λ c. filled) old)

-- ---- each edition's reader

module _ (rule : DigitRule) where
  -- "A good reading writes one place per row and none past them", of the bytes of the five sections
  abbrev pub filled_from : List ℕ → List ℕ → List ℕ → List ℕ → List ℕ → Network → Network
  filled_from b r g l y old =
      network_of (buses_by rule b old.buses) (slacks_by rule r old.slacks) (generators_by rule g old.generators) (filled_branches l old.branches)
      (triplets_by rule y old.triplets)

  -- and of the four of a second-edition text
  abbrev pub branches_from : List ℕ → List ℕ → List ℕ → List ℕ → BranchNetwork → BranchNetwork
  branches_from b r g k old =
      branch_network_of (buses_by rule b old.buses) (slacks_by rule r old.slacks) (generators_by rule g old.generators) (branch_table_by rule k old.table)

  -- the tables after a good reading of a text whose trailer starts at t
  unfoldable pub tables_by : List ℕ → ℕ → Network → Network
  tables_by s t old = filled_from (bytes_of Section.B s t) (bytes_of Section.R s t) (bytes_of Section.G s t) (bytes_of Section.L s t) (bytes_of Section.Y s t) old

  unfoldable pub branch_tables_by : List ℕ → ℕ → BranchNetwork → BranchNetwork
  branch_tables_by s t old = branches_from (bytes_of Section.B s t) (bytes_of Section.R s t) (bytes_of Section.G s t) (bytes_of Section.K s t) old

  -- what the reader of the first edition, which is 01's, answers and leaves, of the text and the columns as they were
  unfoldable pub read_first_by : List ℕ → Network → ReadResult Network
  read_first_by s old = result_of (with_room (text_by rule First s) (room_of old)) (tables_by s (trailer_start First s) old) old

  -- the reader of the second edition
  unfoldable pub read_second_by : List ℕ → BranchNetwork → ReadResult BranchNetwork
  read_second_by s old = result_of (with_room (text_by rule Second s) (branch_room_of old)) (branch_tables_by s (trailer_start Second s) old) old

-- ---- by 02's digit rule

abbrev pub judged_of : Edition → List ℕ → Rows → Reading
judged_of e s m = with_room (checked_text e s) m

abbrev pub filled_of : List ℕ → ℕ → Network → Network
filled_of = tables_by allowed

abbrev pub branch_filled_of : List ℕ → ℕ → BranchNetwork → BranchNetwork
branch_filled_of = branch_tables_by allowed

abbrev pub read_first : List ℕ → Network → ReadResult Network
read_first = read_first_by allowed

abbrev pub read_second : List ℕ → BranchNetwork → ReadResult BranchNetwork
read_second = read_second_by allowed

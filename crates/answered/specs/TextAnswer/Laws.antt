-- Refusals 7, 9 and of branches 13 are not met by a text, a row that names a missing bus is a line of it, withheld figures don't show in its answer, nothing that
-- stood in the workspace does, and a text that 01's digit rule accepted is answered as it was. Assumes nothing.
use Rattle.std.specs.Prelude.{ℕ, ◌≤◌, ◌≡◌, List, true, ◌⊎◌, length, Float, Ok, Err, Some}
use Rattle.std.proofs.Math.Path.{refl}
use Rattle.std.proofs.Common.{ap, ◌∙◌, inl, inr, ⊎_elim, arith}
use Rattle.std.proofs.Math.Seq.{length-take-le}
use borrow.Author.Tests.{le-leb}
use Rattle.real.specs.Paper.{given, refused, on_given}
use Rattle.real.specs.Tests.{both}
use Rattle.network.specs.declared.Rows.{Rows}
use Rattle.network.specs.Network.{Network, bus_count, AtMost, room_of, first_rows}
use Rattle.network.specs.Network.Laws.{at-most-fits}
use Rattle.network.specs.BranchTable.{BranchNetwork, branch_room_of, with_triplets, no_triplets, first_branch_rows}
use Rattle.network.specs.BranchTable.Laws.{room-for-branches, first-branches-counted, first-values-counted, first-branch-buses}
use Rattle.network.specs.Checks.{sizes, counted}
use Rattle.network.specs.Checks.Laws.{first_counted, first_buses_lem}
use Rattle.network.specs.Missing.{missing_at, missing_in}
use Rattle.network.specs.declared.Naming.{Naming}
use Rattle.fields.specs.Real.{DigitRule, allowed}
use Rattle.fields.specs.Before.{allowed_before}
use Rattle.trailer.specs.Trailer.{trailer_start, edition_of}
use Rattle.trailer.specs.declared.Edition.{Edition}
use Rattle.trailer.specs.declared.Edition.TheVariants.{First, Second}
use Rattle.case_text.specs.declared.Contents.{Contents}
use Rattle.case_text.specs.Text.{Reading, text_by, checked_text, text_of}
use Rattle.case_text.specs.Text.Laws.{Accepted, Where, accepted-has, text-sound, never-room}
use Rattle.case_text.specs.Named.{LowestLine}
use Rattle.case_text.specs.Named.Laws.{lines_of, branch-lines-of, told_line}
use Rattle.case_text.specs.Before.{MovedText}
use Rattle.case_text.specs.Before.Laws.{read_kept}
use Rattle.case_text.proofs.Before.{read-before}
use Rattle.case_text.specs.Old.{accepted-first}
use Rattle.case_text.specs.Answer as Reader
use Rattle.case_text.specs.Answer.{with_room, judged_of, filled_of, branch_filled_of, result_of, read_first_by, read_second_by}
use Rattle.case_text.specs.Answer.Laws.{rows-most, filled-room, branch-filled-room}
use Rattle.flows.specs.Flows.{blank_flows}
use Rattle.starts.specs.declared.AcStart.{AcStart}
use Rattle.pf_ac.specs.WithStart.Withheld.{Alike}
use Rattle.outcome.specs.Outcome.{Outs, lengths_in, refusal_paper, roomy, row_refusal, bus_refusal}
use Rattle.tables.specs.Tables.{checked_of, Answer, after_check, solve_of}
use Rattle.tables.specs.Tables.Withheld.{solve-withheld}
use Rattle.tables.specs.Tables.Space.{answer-space, columns-space}
use Rattle.branch_checks.specs.BranchChecks.{checked_rows_of}
use Rattle.branch_tables.specs.BranchTables.{BranchAnswer, after_branch_check, solve_branches_of}
use Rattle.branch_tables.specs.BranchTables.Laws.{branches-never-7-9}
use Rattle.branch_tables.specs.BranchTables.Withheld.{AlikeBranches, branches-withheld}
use Rattle.branch_tables.specs.BranchTables.Space.{branches-answer-space, branches-columns-space, branches-flows-space}
use Rattle.answered.specs.TextAnswer.{blank, blank_branches, TextAnswer, text_answer, told, told_branches, unread, after_first, after_second, text_answer_by, text_answer_of}
use Rattle.case_text.specs.declared.Refusal.{Refusal}

-- ---- refusals 7 and 9

-- the room of blank columns of an edition
abbrev blank_room : Edition → Rows
blank_room First = room_of blank
blank_room Second = branch_room_of blank_branches

-- the rows of a good text fit them
text-fits : (e : Edition) (s : List ℕ) (t : ℕ) (c : Contents) → Accepted e s t c → AtMost c.rows (blank_room e)
text-fits First s t c a = rows-most First s t c a
text-fits Second s t c a =
    let m = rows-most Second s t c a in
    let none : 0 ≡ c.rows.triplets = cc a.body.triplets in
    record { buses = m.buses; slacks = m.slacks; generators = m.generators; branches = m.branches; triplets = omega arith }

pub reader-never-9 : (e : Edition) (s : List ℕ) → judged_of e s (blank_room e) ≡ checked_text e s
reader-never-9 e s = go (checked_text e s) (text-sound e s)
  where
    go : (v : Reading) → Where (Accepted e s (trailer_start e s)) (Reader.paper_of v) → with_room v (blank_room e) ≡ v
    go (Ok c) a = rw (at-most-fits c.rows (blank_room e) (text-fits e s _ c a))
    go (Err f) a = refl

-- what is left of the solve once 7 and 9 are out: the refusal of a row that names a missing bus (8, 11, 12, 13), or the run
abbrev pub solved_or_missing : AcStart → Network → Outs → List Float → Answer
solved_or_missing start t o w = after_check start t o w (bus_refusal (missing_in t))

pub solve-never-7-9 : (start : AcStart) (t : Network) (o : Outs) (w : List Float) → counted t ≡ true → roomy (bus_count t) (lengths_in o) (length w) ≡ true
    → solve_of start t o w ≡ solved_or_missing start t o w
unfolding solve_of checked_of
solve-never-7-9 start t o w h k = rw (h, k)

-- of branches: 8, 11, 12, then 14 or 15, or the run; there is no triplet that could be refused with 13 (`never-13`)
abbrev pub solved_or_at_fault : AcStart → BranchNetwork → Outs → List Float → BranchAnswer
solved_or_at_fault start t o w = after_branch_check start t o blank_flows w (checked_rows_of t)

-- the answer of a text by an edition's rules: its refusal, or that of its tables, or the solved answer
abbrev pub tables_give : Edition → List ℕ → Outs → List Float → Contents → TextAnswer
tables_give First s o w c = told c.rows.buses (solved_or_missing c.start (first_rows c.rows (filled_of s (trailer_start First s) blank)) o w)
tables_give Second s o w c =
    told_branches c.rows.buses c.rows.branches
    (solved_or_at_fault c.start (first_branch_rows c.rows (branch_filled_of s (trailer_start Second s) blank_branches)) o w)

abbrev pub text_gives : Edition → List ℕ → Outs → List Float → Reading → TextAnswer
text_gives e s o w v =
    on_given (Reader.paper_of v) (tables_give e s o w) (text_answer 0 0 (unread (Reader.paper_of v)) o blank_flows w)

module _ (s : List ℕ) (o : Outs) (w : List Float) (room : (n : ℕ) → n ≤ 32 → roomy n (lengths_in o) (length w) ≡ true) where
  -- the first rows of tables that have room for them
  rows-never-7-9 : (start : AcStart) (r : Rows) (t : Network) → AtMost r sizes → AtMost r (room_of t) → solve_of start (first_rows r t) o w ≡ solved_or_missing start (first_rows r t) o w
  rows-never-7-9 start r t few fits =
      solve-never-7-9 start (first_rows r t) o w (first_counted r t few fits) (rw (first_buses_lem r t fits) (room r.buses few.buses))

  branch-rows-never-7-9 : (start : AcStart) (r : Rows) (t : BranchNetwork) → AtMost r sizes → AtMost r (branch_room_of t)
      → solve_branches_of start (first_branch_rows r t) o blank_flows w ≡ solved_or_at_fault start (first_branch_rows r t) o w
  unfolding both
  branch-rows-never-7-9 start r t few fits =
      let m = length-take-le r.branches t.table.ends.from (room-for-branches r t fits).table.ends.from in
      branches-never-7-9 start (first_branch_rows r t) o blank_flows w (rw (first-values-counted r t few fits, first-branches-counted r t few fits))
      (rw (first-branch-buses r t few fits, room r.buses few.buses, m, le-leb r.branches 64 few.branches))

  edition-never-7-9 : (e : Edition) → text_answer_by allowed e s o w ≡ text_gives e s o w (checked_text e s)
  unfolding text_answer_by read_first_by read_second_by
  edition-never-7-9 First = rw (reader-never-9 First s) (go (checked_text First s) (text-sound First s))
    where
      go : (v : Reading) → Where (Accepted First s (trailer_start First s)) (Reader.paper_of v)
          → after_first (result_of v (filled_of s (trailer_start First s) blank) blank) o w ≡ text_gives First s o w v
      go (Ok c) a =
          let few = rows-most First s _ c a in
          let fits : AtMost c.rows (room_of (filled_of s (trailer_start First s) blank)) = rw (filled-room s (trailer_start First s) blank) (text-fits First s _ c a) in
          ap (told c.rows.buses) (rows-never-7-9 c.start c.rows (filled_of s (trailer_start First s) blank) few fits)
      go (Err f) a = refl
  edition-never-7-9 Second = rw (reader-never-9 Second s) (go (checked_text Second s) (text-sound Second s))
    where
      go : (v : Reading) → Where (Accepted Second s (trailer_start Second s)) (Reader.paper_of v)
          → after_second (result_of v (branch_filled_of s (trailer_start Second s) blank_branches) blank_branches) o w ≡ text_gives Second s o w v
      go (Ok c) a =
          let few = rows-most Second s _ c a in
          let fits : AtMost c.rows (branch_room_of (branch_filled_of s (trailer_start Second s) blank_branches)) = rw (branch-filled-room s (trailer_start Second s) blank_branches) (text-fits Second s _ c a) in
          ap (told_branches c.rows.buses c.rows.branches) (branch-rows-never-7-9 c.start c.rows (branch_filled_of s (trailer_start Second s) blank_branches) few fits)
      go (Err f) a = refl

  pub answer-never-7-9 : (text_answer_of s o w ≡ text_gives (edition_of s) s o w (text_of s)) × (text_of s ≡ Err Refusal.Room → ⊥)
  answer-never-7-9 = (edition-never-7-9 (edition_of s), never-room (edition_of s) s)

  -- ---- a row that names a missing bus

  -- the tables that are searched for a missing bus
  abbrev pub searched : Edition → Contents → Network
  searched First c = first_rows c.rows (filled_of s (trailer_start First s) blank)
  searched Second c = with_triplets (first_branch_rows c.rows (branch_filled_of s (trailer_start Second s) blank_branches)) no_triplets

  -- of how many branches a text that is read tells the flows where it is solved
  abbrev pub branches_told : Edition → Contents → ℕ
  branches_told First c = 0
  branches_told Second c = c.rows.branches

  -- the answer that is the refusal of a row
  abbrev pub row_refused : Edition → Contents → Naming → ℕ → ℕ → TextAnswer
  row_refused e c table i j = text_answer c.rows.buses (branches_told e c) (refusal_paper (row_refusal table i j)) o blank_flows w

  -- the refusal's row is a line of the text: the first of its section that names a missing bus, by the field told
  edition-line : (e : Edition) (c : Contents) → checked_text e s ≡ Ok c → (table : Naming) (i j : ℕ) → missing_in (searched e c) ≡ Some (missing_at table i j)
      → (text_answer_by allowed e s o w ≡ row_refused e c table i j) × LowestLine e s (trailer_start e s) table i j
  edition-line First c h table i j q =
      let a = accepted-has First s c h in
      (edition-never-7-9 First ∙ rw (h, q), told_line First s (trailer_start First s) _ (lines_of s (trailer_start First s) c a blank (text-fits First s _ c a)) table i j q)
  edition-line Second c h table i j q =
      let a = accepted-has Second s c h in
      (edition-never-7-9 Second ∙ rw (h, q), told_line Second s (trailer_start Second s) _ (branch-lines-of s (trailer_start Second s) c a blank_branches (text-fits Second s _ c a)) table i j q)

  pub refused_line_lem : (c : Contents) → text_of s ≡ Ok c → (table : Naming) (i j : ℕ) → missing_in (searched (edition_of s) c) ≡ Some (missing_at table i j)
      → (text_answer_of s o w ≡ row_refused (edition_of s) c table i j) × LowestLine (edition_of s) s (trailer_start (edition_of s) s) table i j
  refused_line_lem = edition-line (edition_of s)

-- ---- demand 3

-- tables that differ only in 01's withheld columns are answered alike
pub answer-withheld : (c : Contents) (read read' : Network) (o : Outs) (w : List Float) → Alike c.start (first_rows c.rows read) (first_rows c.rows read')
    → after_first (Reader.read_result (given c) read) o w ≡ after_first (Reader.read_result (given c) read') o w
answer-withheld c read read' o w a = ap (told c.rows.buses) (solve-withheld c.start _ _ a o w)

pub answer-branches-withheld : (c : Contents) (read read' : BranchNetwork) (o : Outs) (w : List Float)
    → AlikeBranches c.start (first_branch_rows c.rows read) (first_branch_rows c.rows read')
    → after_second (Reader.read_result (given c) read) o w ≡ after_second (Reader.read_result (given c) read') o w
answer-branches-withheld c read read' o w a = ap (told_branches c.rows.buses c.rows.branches) (branches-withheld c.start _ _ a o blank_flows w)

-- ---- nothing that stood in the workspace shows

-- answers that agree but for the workspace
pub record SameButSpace (a b : TextAnswer) : Type 0 where
  pub buses : a.buses ≡ b.buses
  pub branches : a.branches ≡ b.branches
  pub paper : a.paper ≡ b.paper
  pub columns : a.columns ≡ b.columns
  pub flows : a.flows ≡ b.flows

module _ (rule : DigitRule) (s : List ℕ) (o : Outs) (w v : List Float) (size : length w ≡ length v) where
  first-space : (x : Reader.ReadResult Network) → SameButSpace (after_first x o w) (after_first x o v)
  first-space (Reader.read_result (given c) read) =
      record {
        buses = refl;
        branches = refl;
        paper = answer-space c.start (first_rows c.rows read) o w v size;
        columns = columns-space c.start (first_rows c.rows read) o w v size;
        flows = refl;
      }
  first-space (Reader.read_result (refused number values) read) = record { buses = refl; branches = refl; paper = refl; columns = refl; flows = refl }

  second-space : (x : Reader.ReadResult BranchNetwork) → SameButSpace (after_second x o w) (after_second x o v)
  second-space (Reader.read_result (given c) read) =
      record {
        buses = refl;
        branches = refl;
        paper = branches-answer-space c.start (first_branch_rows c.rows read) o blank_flows w v size;
        columns = branches-columns-space c.start (first_branch_rows c.rows read) o blank_flows w v size;
        flows = branches-flows-space c.start (first_branch_rows c.rows read) o blank_flows w v size;
      }
  second-space (Reader.read_result (refused number values) read) = record { buses = refl; branches = refl; paper = refl; columns = refl; flows = refl }

  pub text-space : (e : Edition) → SameButSpace (text_answer_by rule e s o w) (text_answer_by rule e s o v)
  unfolding text_answer_by
  text-space First = first-space (read_first_by rule s blank)
  text-space Second = second-space (read_second_by rule s blank_branches)

-- ---- 02, Ask 2

-- a text that 01's digit rule accepted is answered as it was: the answer, the columns and the workspace
pub answer-kept : (s : List ℕ) (c : Contents) → text_by allowed_before First s ≡ Ok c → (o : Outs) (w : List Float)
    → text_answer_of s o w ≡ text_answer_by allowed_before First s o w
unfolding text_answer_by
answer-kept s c h o w = rw (accepted-first allowed_before s c h) (ap (λ r. after_first r o w) (read_kept s c h blank))

-- any first-edition text is, or 01 refused a field that is now taken
pub answer-before : (s : List ℕ) → edition_of s ≡ First → (o : Outs) (w : List Float)
    → (text_answer_of s o w ≡ text_answer_by allowed_before First s o w) ⊎ MovedText s (trailer_start First s) (text_by allowed_before First s) (text_of s)
unfolding text_answer_by
answer-before s e o w = rw e (⊎_elim (λ q. inl (ap (λ r. after_first r o w) q)) (λ m. inr m) (read-before s blank))

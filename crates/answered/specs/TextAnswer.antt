-- The answer of a case text: the reading by its edition's rules joined to that edition's solve. What is printed of it stands in `report`.
pub mod Laws
use Rattle.std.specs.Prelude.{ℕ, ◌≤◌, List, [], replicate, Float, Result, Ok, Err}
use Rattle.real.specs.Paper.{Paper, given, refused}
use Rattle.real.specs.Literals.{nought}
use Rattle.network.specs.Network.{Network, buses_of, slacks_of, generators_of, branches_of, triplets_of, network_of, first_rows}
use Rattle.network.specs.BranchTable.{BranchNetwork, values_of, branch_table_of, branch_network_of, first_branch_rows}
use Rattle.fields.specs.Real.{DigitRule, allowed}
use Rattle.trailer.specs.Trailer.{edition_of}
use Rattle.trailer.specs.declared.Edition.{Edition}
use Rattle.trailer.specs.declared.Edition.TheVariants.{First, Second}
use Rattle.case_text.specs.declared.Contents.{Contents}
use Rattle.case_text.specs.Answer as Reader
use Rattle.case_text.specs.declared.Refusal.{Refusal}
use Rattle.outcome.specs.Outcome.{Outcome, Outs, paper_of}
use Rattle.tables.specs.Tables.{Answer, solve_of}
use Rattle.flows.specs.declared.Flows.{Flows}
use Rattle.flows.specs.Flows.{blank_flows}
use Rattle.branch_tables.specs.BranchTables.{BranchAnswer, solve_branches_of}
use Rattle.answered.specs.declared.Read.{Read}

-- columns of each table's full size, which the reader is lent
abbrev pub blank : Network
blank =
    let n : List ℕ = replicate 32 0 in
    let x = replicate 32 nought in
    network_of (buses_of n x x x x x x x) (slacks_of n x) (generators_of n x x) (branches_of (replicate 64 0) (replicate 64 0))
    (triplets_of (replicate 256 0) (replicate 256 0) (replicate 256 nought) (replicate 256 nought))

abbrev pub blank_branches : BranchNetwork
blank_branches =
    let x = replicate 64 nought in
    branch_network_of blank.buses blank.slacks blank.generators (branch_table_of blank.branches (values_of x x x x x x x x x))

-- how many buses, of how many branches the flows are told, the answer on 01's paper, and what is left in the columns of buses, the flows and the workspace
pub record TextAnswer : Type 0 where
  pub buses : ℕ
  pub branches : ℕ
  pub paper : Paper (ℕ × Float)
  pub columns : Outs
  pub flows : Flows
  pub space : List Float

abbrev pub text_answer : ℕ → ℕ → Paper (ℕ × Float) → Outs → Flows → List Float → TextAnswer
text_answer n m r o f w = record { buses = n; branches = m; paper = r; columns = o; flows = f; space = w }

-- 02, Ask 5: flows are told "For a solved case of the second edition", so of no branch of the first; the second edition's solve is lent blank columns for them
abbrev pub told : ℕ → Answer → TextAnswer
told n a = text_answer n 0 a.paper a.columns blank_flows a.space

abbrev pub told_branches : ℕ → ℕ → BranchAnswer → TextAnswer
told_branches n m a = text_answer n m a.solved.paper a.solved.columns a.flows a.solved.space

-- of a good text the solve of its rows; a reader's refusal leaves columns and workspace untouched
abbrev pub after_first : Reader.ReadResult Network → Outs → List Float → TextAnswer
after_first (Reader.read_result (given c) read) o w = told c.rows.buses (solve_of c.start (first_rows c.rows read) o w)
after_first (Reader.read_result (refused number values) read) o w = text_answer 0 0 (refused number values) o blank_flows w

abbrev pub after_second : Reader.ReadResult BranchNetwork → Outs → List Float → TextAnswer
after_second (Reader.read_result (given c) read) o w =
    told_branches c.rows.buses c.rows.branches (solve_branches_of c.start (first_branch_rows c.rows read) o blank_flows w)
after_second (Reader.read_result (refused number values) read) o w = text_answer 0 0 (refused number values) o blank_flows w

-- by an edition's rules, its reals read by a digit rule
unfoldable pub text_answer_by : DigitRule → Edition → List ℕ → Outs → List Float → TextAnswer
text_answer_by rule First s o w = after_first (Reader.read_first_by rule s blank) o w
text_answer_by rule Second s o w = after_second (Reader.read_second_by rule s blank_branches) o w

-- by 02's digit rule

abbrev pub first_answer : List ℕ → Outs → List Float → TextAnswer
first_answer = text_answer_by allowed First

abbrev pub second_answer : List ℕ → Outs → List Float → TextAnswer
second_answer = text_answer_by allowed Second

-- by the rules of the text's own edition
abbrev pub text_answer_of : List ℕ → Outs → List Float → TextAnswer
text_answer_of s o w = text_answer_by allowed (edition_of s) s o w

-- ---- the answer on paper

-- refused by the reader, or read
abbrev pub Answered : Type 0
Answered = Result Read Refusal

-- read, with so many buses and branches whose flows are told
abbrev pub read_as : ℕ → ℕ → Outcome → Answered
read_as n m r = Ok (record { buses = n; branches = m; outcome = r })

abbrev pub buses_in : Answered → ℕ
buses_in (Ok r) = r.buses
buses_in (Err f) = 0

abbrev pub branches_in : Answered → ℕ
branches_in (Ok r) = r.branches
branches_in (Err f) = 0

-- a reader's refusal; a good reading is none
abbrev pub unread : Paper Contents → Paper (ℕ × Float)
unread (given c) = refused 9 []
unread (refused number values) = refused number values

abbrev pub paper_in : Answered → Paper (ℕ × Float)
paper_in (Ok r) = paper_of r.outcome
paper_in (Err f) = unread (Reader.paper_of (Err f))

-- with what is left in the columns, the flows and the workspace
abbrev pub answered_with : Answered → Outs → Flows → List Float → TextAnswer
answered_with r o f w = text_answer (buses_in r) (branches_in r) (paper_in r) o f w

-- as many rows as a text may have
abbrev pub Few : Answered → Type 0
Few r = (buses_in r ≤ 32) × (branches_in r ≤ 64)

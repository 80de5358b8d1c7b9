-- 01, "Tables and sizes", with 02's Ask 1: what a solve over tables answers, and what is written in the five answer columns and in the workspace.
pub mod Laws
use Rattle.std.specs.Prelude.{ℕ, ◌≤◌, Bool, Option, Some, None, Result, Ok, Err, List, [], ◌∷◌, leb, length, get_or, replicate, Float}
use Rattle.std.specs.Float.{nan}
use Rattle.real.specs.Tests.{both}
use Rattle.real.specs.declared.Value.TheVariants.{Whole, Real}
use Rattle.real.specs.Paper.{Paper, given, refused}
use Rattle.real.specs.Literals.{nought}
use Rattle.network.specs.Columns.{Kept}
use Rattle.network.specs.Network.{Triplets}
use Rattle.network.specs.declared.Naming.{Naming}
use Rattle.network.specs.declared.Naming.TheVariants as Naming
use Rattle.network.specs.declared.MissingBus.{MissingBus}
use Rattle.layout.specs.declared.BusKind.{BusKind}
use Rattle.layout.specs.declared.Point.{Point}
use Rattle.layout.specs.Table.{stores}
use Rattle.injections.specs.Injections.{injections_of}
use Rattle.moves.specs.Moves.{letters_of}
use Rattle.pf_ac.specs.declared.AcPf.{AcPf}
use Rattle.pf_ac.specs.declared.AcPf.TheVariants as AcPf
use Rattle.outcome.specs.declared.Solved.{Solved}
use Rattle.outcome.specs.declared.AnswerColumns.{AnswerColumns}
use Rattle.outcome.specs.declared.AnswerColumnsMut.{AnswerColumnsMut}
use Rattle.outcome.specs.declared.Refusal.{Refusal}
use Rattle.outcome.specs.declared.Refusal.TheVariants.{Counts, Room, Slack, Generator, Branch, Triplet, Tap, Ends, NotConverged}
use Rattle.outcome.specs.declared.Lengths.{Lengths}

-- ---- the answer on paper

-- solved: iterations and residual
abbrev pub ok : ℕ → Float → Paper (ℕ × Float)
ok iterations residual = given (iterations, residual)

-- 01's and 02's number and values for each case
abbrev pub refusal_paper : Refusal → Paper (ℕ × Float)
refusal_paper Counts = refused 7 []
refusal_paper Room = refused 9 []
refusal_paper (Slack row) = refused 8 (Whole row ∷ [])
refusal_paper (Generator row) = refused 11 (Whole row ∷ [])
refusal_paper (Branch row field) = refused 12 (Whole row ∷ Whole field ∷ [])
refusal_paper (Triplet row field) = refused 13 (Whole row ∷ Whole field ∷ [])
refusal_paper (Tap row) = refused 14 (Whole row ∷ [])
refusal_paper (Ends row) = refused 15 (Whole row ∷ [])
refusal_paper (NotConverged mismatch starts) = refused 10 (Real mismatch ∷ Whole starts ∷ [])

-- solved, or a refusal
abbrev pub Outcome : Type 0
Outcome = Result Solved Refusal

abbrev pub paper_of : Outcome → Paper (ℕ × Float)
paper_of (Ok s) = ok s.iterations s.residual
paper_of (Err r) = refusal_paper r

-- the answer columns
pub record Outs : Type 0 where
  pub vm : List Float
  pub va : List Float
  pub p : List Float
  pub q : List Float
  pub kinds : List ℕ

abbrev pub outs : List Float → List Float → List Float → List Float → List ℕ → Outs
outs vm va p q kinds = record { vm = vm; va = va; p = p; q = q; kinds = kinds }

-- those that lent columns hold, and that they are still the columns that were lent
abbrev pub outs_in : AnswerColumns → Outs
outs_in c = outs c.vm.now c.va.now c.p.now c.q.now c.kinds.now

abbrev pub outs_lent : AnswerColumnsMut → Outs
outs_lent c = outs c.vm.now c.va.now c.p.now c.q.now c.kinds.now

pub record SameOuts (c d : AnswerColumnsMut) : Type 0 where
  pub vm : Kept c.vm d.vm
  pub va : Kept c.va d.va
  pub p : Kept c.p d.p
  pub q : Kept c.q d.q
  pub kinds : Kept c.kinds d.kinds

-- ---- the checks

-- how many places each answer column has
abbrev pub lengths_of : ℕ → ℕ → ℕ → ℕ → ℕ → Lengths
lengths_of vm va p q kinds = record { vm = vm; va = va; p = p; q = q; kinds = kinds }

abbrev pub lengths_in : Outs → Lengths
lengths_in o = lengths_of (length o.vm) (length o.va) (length o.p) (length o.q) (length o.kinds)

-- "at least one place per bus"
pub record OnePerBus (n : ℕ) (m : Lengths) : Type 0 where
  pub vm : n ≤ m.vm
  pub va : n ≤ m.va
  pub p : n ≤ m.p
  pub q : n ≤ m.q
  pub kinds : n ≤ m.kinds

-- no "answer columns or workspace too short"
unfoldable pub roomy : ℕ → Lengths → ℕ → Bool
roomy n m space = both (leb n m.vm) (both (leb n m.va) (both (leb n m.p) (both (leb n m.q) (both (leb n m.kinds) (leb 6144 space)))))

-- the refusal of a row that names a missing bus, by its table
abbrev pub row_refusal : Naming → ℕ → ℕ → Refusal
row_refusal Naming.Slack row field = Slack row
row_refusal Naming.Generator row field = Generator row
row_refusal Naming.Branch row field = Branch row field
row_refusal Naming.Triplet row field = Triplet row field

abbrev pub bus_refusal : Option MissingBus → Result (Unit {0}) Refusal
bus_refusal (Some at) = Err (row_refusal at.table at.row at.field)
bus_refusal None = Ok tt

-- ---- what is written

-- one place per bus in each column, and none past them: the voltages, the powers that they carry, the kinds' letters
unfoldable pub with_answer : ℕ → Triplets → Point → List BusKind → Outs → Outs
with_answer n y point kinds o =
    let power = (injections_of n y point.vm point.va).power in
    outs (stores (λ b. get_or point.vm b nan) n o.vm) (stores (λ b. get_or point.va b nan) n o.va)
    (stores (λ b. get_or power.p b nan) n o.p) (stores (λ b. get_or power.q b nan) n o.q) (stores (λ b. get_or (letters_of n kinds) b 0) n o.kinds)

-- "the whole workspace is zeros"
unfoldable pub zeros : List Float → List Float
zeros w = replicate (length w) nought

-- the answer and the columns: written if it is solved, else untouched
pub data Written : Type 0 where
  written : Paper (ℕ × Float) → Outs → Written

abbrev pub write_of : ℕ → Triplets → AcPf → Point → List BusKind → Outs → Written
write_of n y (AcPf.Solved iterations residual) point kinds o = written (ok iterations residual) (with_answer n y point kinds o)
write_of n y (AcPf.NotConverged mismatch starts) point kinds o = written (refused 10 (Real mismatch ∷ Whole starts ∷ [])) o

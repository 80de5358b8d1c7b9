-- What is printed of each answer, and that the report's contract fixes everything. Assumes nothing.
use Rattle.std.specs.Prelude.{ℕ, ◌≤◌, ◌≡◌, refl, List, true, ◌⊎◌, leb, length, Float, Ok, Err}
use Rattle.std.proofs.Common.{sym, ap, ◌∙◌, inl, inr, ⊎_elim, le-leb}
use Rattle.real.specs.Tests.{both}
use Rattle.real.specs.Paper.{Paper, given, refused}
use Rattle.network.specs.Network.{Network, first_rows}
use Rattle.network.specs.BranchTable.{BranchNetwork, first_branch_rows}
use Rattle.fields.specs.Real.{allowed}
use Rattle.fields.specs.Before.{allowed_before}
use Rattle.trailer.specs.Trailer.{trailer_start, edition_of}
use Rattle.trailer.specs.declared.Edition.TheVariants.{First}
use Rattle.case_text.specs.declared.Contents.{Contents}
use Rattle.case_text.specs.Text.{text_by, text_of}
use Rattle.case_text.specs.Before.{MovedText}
use Rattle.case_text.specs.Answer as Reader
use Rattle.flows.specs.declared.Flows.{Flows}
use Rattle.pf_ac.specs.WithStart.Withheld.{Alike}
use Rattle.outcome.specs.Outcome.{Outs, lengths_in, roomy}
use Rattle.branch_tables.specs.BranchTables.Withheld.{AlikeBranches}
use Rattle.answered.specs.TextAnswer.{TextAnswer, unread, after_first, after_second, text_answer_of}
use Rattle.answered.specs.TextAnswer.Laws.{text_gives, answer-never-7-9, answer-withheld, answer-branches-withheld, text-space, answer-kept, answer-before}
use Rattle.lines.specs.Lines.{Wrote}
use Rattle.report.specs.Report.{blanks, Report, printed_of, refusal_of, reported, report_by, report_of, Reported}
use Rattle.case_text.specs.declared.Refusal.{Refusal}

-- a reader's refusal as it is printed
pub unread-printed : (p : Paper Contents) (o : Outs) (f : Flows) → printed_of 0 0 (unread p) o f ≡ refusal_of p
unread-printed (given c) o f = refl
unread-printed (refused number values) o f = refl

-- an answer, printed, is the report
pub printed-reported : (s : List ℕ) (w : List Float) (a : TextAnswer) → a ≡ text_answer_of s blanks w
    → {before after : List ℕ} {end : ℕ} → Wrote before 0 (reported a).bytes end after → Reported (report_of s w) before end after a.space
unfolding report_by
printed-reported s w a h p = record { written = rw (← h) p; left = ap (λ a. a.space) h }

-- ---- refusals 7 and 9 are not met by a text

roomy-blanks : (w : List Float) → leb 6144 (length w) ≡ true → (n : ℕ) → n ≤ 32 → roomy n (lengths_in blanks) (length w) ≡ true
unfolding roomy both
roomy-blanks w h n few = rw (le-leb n 32 few, h)

pub report-never-7-9 : (s : List ℕ) (w : List Float) → leb 6144 (length w) ≡ true
    → (report_of s w ≡ reported (text_gives (edition_of s) s blanks w (text_of s))) × (text_of s ≡ Err Refusal.Room → ⊥)
unfolding report_by
report-never-7-9 s w h = let a = answer-never-7-9 s blanks w (roomy-blanks w h) in (ap reported a.0, a.1)

-- ---- the contract fixes everything

-- two outcomes that meet the report's contract are equal: how many bytes, the buffer and the workspace
pub report-one : (r : Report) (before after₁ after₂ : List ℕ) (end₁ end₂ : ℕ) (space₁ space₂ : List Float) → Reported r before end₁ after₁ space₁
    → Reported r before end₂ after₂ space₂
    → (end₁ ≡ end₂) × (after₁ ≡ after₂) × (space₁ ≡ space₂)
report-one r before after₁ after₂ end₁ end₂ space₁ space₂ p q =
    (p.written.ends ∙ sym q.written.ends, p.written.left ∙ sym q.written.left, p.left ∙ sym q.left)

-- ---- demand 3, of what is printed

-- tables that differ only in 01's withheld columns print the same bytes and leave the same workspace
pub printed-withheld : (c : Contents) (read read' : Network) (w : List Float) → Alike c.start (first_rows c.rows read) (first_rows c.rows read')
    → reported (after_first (Reader.read_result (given c) read) blanks w) ≡ reported (after_first (Reader.read_result (given c) read') blanks w)
printed-withheld c read read' w a = ap reported (answer-withheld c read read' blanks w a)

pub printed-branches-withheld : (c : Contents) (read read' : BranchNetwork) (w : List Float)
    → AlikeBranches c.start (first_branch_rows c.rows read) (first_branch_rows c.rows read')
    → reported (after_second (Reader.read_result (given c) read) blanks w) ≡ reported (after_second (Reader.read_result (given c) read') blanks w)
printed-branches-withheld c read read' w a = ap reported (answer-branches-withheld c read read' blanks w a)

-- ---- nothing that stood in the workspace is printed

pub report-space : (s : List ℕ) (w v : List Float) → length w ≡ length v → (report_of s w).bytes ≡ (report_of s v).bytes
unfolding report_by
report-space s w v size = let a = text-space allowed s blanks w v size (edition_of s) in λ i. printed_of (a.buses i) (a.branches i) (a.paper i) (a.columns i) (a.flows i)

-- ---- 02, Ask 2, of what is printed

-- a text that 01's digit rule accepted prints the bytes that it printed
pub report-kept : (s : List ℕ) (c : Contents) → text_by allowed_before First s ≡ Ok c → (w : List Float) → report_of s w ≡ report_by allowed_before First s w
unfolding report_by
report-kept s c h w = ap reported (answer-kept s c h blanks w)

-- any first-edition text does, or 01 refused a field that is now taken
pub report-before : (s : List ℕ) → edition_of s ≡ First → (w : List Float)
    → (report_of s w ≡ report_by allowed_before First s w) ⊎ MovedText s (trailer_start First s) (text_by allowed_before First s) (text_of s)
unfolding report_by
report-before s e w = ⊎_elim (λ q. inl (ap reported q)) (λ m. inr m) (answer-before s e blanks w)

-- 01, "One listing in full": what the solve program prints of a text, and what it leaves in the workspace. It is the answer of the text, printed.
pub mod Laws
use Rattle.std.specs.Prelude.{ℕ, ◌≤◌, ◌≡◌, List, [], ◌++◌, replicate, Float}
use Rattle.real.specs.Paper.{Paper, given, refused}
use Rattle.real.specs.Literals.{nought}
use Rattle.fields.specs.Real.{DigitRule, allowed}
use Rattle.trailer.specs.Trailer.{edition_of}
use Rattle.trailer.specs.declared.Edition.{Edition}
use Rattle.case_text.specs.declared.Contents.{Contents}
use Rattle.outcome.specs.Outcome.{Outs, outs}
use Rattle.answered.specs.TextAnswer.{TextAnswer, text_answer_by}
use Rattle.flows.specs.declared.Flows.{Flows}
use Rattle.lines.specs.Lines.{ok_line, bus_lines, branch_lines, refused_line, Wrote}
use Rattle.lines.specs.Printer.{OnePerBus}
use Rattle.report.specs.declared.Figures.{Figures}

-- the buffer that a report is written into
abbrev pub buffer_size : ℕ
buffer_size = 10240

-- the columns that the answer is lent
abbrev pub blanks : Outs
blanks = let x = replicate 32 nought in outs x x x x (replicate 32 0)

pub record Report : Type 0 where
  pub bytes : List ℕ
  pub space : List Float

-- `ok`, a line for each of n buses and "one line per branch after the bus lines" for each of m branches, or a refusal
abbrev pub printed_of : ℕ → ℕ → Paper (ℕ × Float) → Outs → Flows → List ℕ
printed_of n m (given found) o f =
    ok_line found.0 found.1 ++ bus_lines n o.vm o.va o.p o.q o.kinds ++ branch_lines m f.pf f.qf f.pt f.qt f.loss
printed_of n m (refused number values) o f = refused_line number values

-- of tables that the solve refuses
abbrev pub refused_of : Paper (ℕ × Float) → List ℕ
refused_of (given found) = []
refused_of (refused number values) = refused_line number values

-- of a text that the reader refuses; a good reading is no refusal, and 9 stands in for one
abbrev pub refusal_of : Paper Contents → List ℕ
refusal_of (given c) = refused_line 9 []
refusal_of (refused number values) = refused_line number values

-- as many buses and branches as a text may have, and a figure of each bus
pub record FewFigures (f : Figures) : Type 0 where
  pub buses : f.n ≤ 32
  pub branches : f.m ≤ 64
  pub figures : OnePerBus f.n f.buses

-- an answer, printed
abbrev pub reported : TextAnswer → Report
reported a = record { bytes = printed_of a.buses a.branches a.paper a.columns a.flows; space = a.space }

-- by an edition's rules, its reals read by a digit rule
unfoldable pub report_by : DigitRule → Edition → List ℕ → List Float → Report
report_by rule e s w = reported (text_answer_by rule e s blanks w)

-- by 02's digit rule and those of the text's own edition
abbrev pub report_of : List ℕ → List Float → Report
report_of s w = report_by allowed (edition_of s) s w

-- the report stands at the buffer's beginning, and the workspace is as the definition leaves it
pub record Reported (r : Report) (before : List ℕ) (end : ℕ) (after : List ℕ) (space : List Float) : Type 0 where
  pub written : Wrote before 0 r.bytes end after
  pub left : space ≡ r.space

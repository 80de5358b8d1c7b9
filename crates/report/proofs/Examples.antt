-- 01's listing by computation, from the 73 bytes of the text to the two lines that are printed. Assumes nothing.
use Prim.Native.Nat.{ℕ}
use mathlib.Core.Bool.{true}
use mathlib.Core.Path.{◌≡◌, refl, ap, ◌∙◌}
use mathlib.Core.List.{List, [], ◌∷◌, ◌++◌}
use lib.Dec.{leb}
use lib.ListN.{length}
use lib.Ieee.{Float, is_nan, neg, of_int, of_bits, to_bits}
use Rattle.real.specs.Tests.{both}
use Rattle.real.specs.Literals.{double}
use Rattle.network.specs.Network.{room_of, fits_of, first_rows}
use Rattle.case_text.proofs.Examples.{listing, listing_contents, listing_tables, listing-edition, listing-read}
use Rattle.outcome.specs.Outcome.{ok, lengths_in, roomy, zeros}
use Rattle.tables.proofs.Examples as Solved
use Rattle.flows.specs.Flows.{blank_flows}
use Rattle.lines.specs.Lines.{decimal_by, printed_real, ok_line, four_reals, bus_line, bus_lines, branch_lines}
use Rattle.answered.specs.TextAnswer.{blank, after_first, text_answer_by}
use Rattle.report.specs.Report.{blanks, printed_of, reported, report_by, report_of}

-- `ok 0 0000000000000000`
abbrev pub first_line : List ℕ
first_line =
    111 ∷ 107 ∷ 32 ∷ 48 ∷ 32 ∷ 48 ∷ 48 ∷ 48 ∷ 48 ∷ 48 ∷ 48 ∷ 48 ∷ 48 ∷ 48 ∷ 48 ∷ 48 ∷ 48 ∷ 48 ∷ 48 ∷ 48 ∷ 48 ∷ 10 ∷ []

-- `0 S 3ff0000000000000 0000000000000000 4000000000000000 4020000000000000`
abbrev pub second_line : List ℕ
second_line =
    48 ∷ 32 ∷ 83 ∷ 32 ∷ 51 ∷ 102 ∷ 102 ∷ 48 ∷ 48 ∷ 48 ∷ 48 ∷ 48 ∷ 48 ∷ 48 ∷ 48 ∷ 48 ∷ 48 ∷ 48 ∷ 48 ∷ 48 ∷ 32 ∷ 48 ∷ 48 ∷ 48 ∷ 48 ∷ 48 ∷ 48 ∷ 48 ∷ 48 ∷ 48 ∷ 48 ∷ 48 ∷ 48 ∷ 48 ∷ 48 ∷ 48 ∷ 48 ∷ 32 ∷ 52 ∷ 48 ∷ 48 ∷ 48 ∷ 48 ∷ 48 ∷ 48 ∷ 48 ∷ 48 ∷ 48 ∷ 48 ∷ 48 ∷ 48 ∷ 48 ∷ 48 ∷ 48 ∷ 32 ∷ 52 ∷ 48 ∷ 50 ∷ 48 ∷ 48 ∷ 48 ∷ 48 ∷ 48 ∷ 48 ∷ 48 ∷ 48 ∷ 48 ∷ 48 ∷ 48 ∷ 48 ∷ 48 ∷ 10 ∷ []

-- the tables that the reader gives are those that the solve is computed on
same-network : first_rows listing_contents.rows (listing_tables blank) ≡ Solved.listing
unfolding of_int of_bits neg
same-network = refl

same_lines : printed_of 1 0 (ok 0 (double 0)) (Solved.row blanks) blank_flows ≡ first_line ++ second_line
unfolding ok_line bus_lines bus_line four_reals branch_lines decimal_by printed_real is_nan to_bits of_int of_bits
same_lines = refl

room : (w : List Float) → leb 6144 (length w) ≡ true → roomy 1 (lengths_in blanks) (length w) ≡ true
unfolding roomy both
room w h = h

rows_fit : fits_of listing_contents.rows (room_of blank) ≡ true
unfolding both
rows_fit = refl

-- whatever stood in the workspace
pub listing-reported : (w : List Float) → leb 6144 (length w) ≡ true → report_of listing w ≡ record { bytes = first_line ++ second_line; space = zeros w }
unfolding report_by text_answer_by
listing-reported w h =
    rw listing-edition
    (ap (λ r. reported (after_first r blanks w)) (listing-read blank rows_fit) ∙ rw (same-network, Solved.listing-solved blanks w (room w h)) (rw same_lines refl))

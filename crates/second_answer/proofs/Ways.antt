-- The same of a second-edition text. Assumes nothing.
use Rattle.std.specs.Prelude.{Ok, Err}
use Prim.Native.Nat.{ℕ}
use mathlib.Core.Path.{◌≡◌}
use mathlib.Core.List.{List}
use lib.Ieee.{Float}
use Rattle.network.specs.Network.{AtMost}
use Rattle.network.specs.Network.Laws.{fits-at-most}
use Rattle.network.specs.BranchTable.{BranchNetwork, RoomForBranches, branch_room_of, first_branch_rows}
use Rattle.network.specs.BranchTable.Laws.{room-for-branches}
use Rattle.trailer.specs.Trailer.{trailer_start}
use Rattle.trailer.specs.declared.Edition.TheVariants.{Second}
use Rattle.case_text.specs.declared.Contents.{Contents}
use Rattle.case_text.specs.declared.Refusal.{Refusal}
use Rattle.case_text.specs.Answer as Reader
use Rattle.case_text.specs.Answer.Laws.{branch-filled-room}
use Rattle.case_text.proofs.Unique.{accepts, writes}
use Rattle.outcome.specs.Outcome.{Outcome, Outs, paper_of}
use Rattle.flows.specs.declared.Flows.{Flows}
use Rattle.flows.specs.Flows.{blank_flows}
use Rattle.tables.specs.Tables.{answer}
use Rattle.branch_tables.specs.BranchTables.{branch_answer, solve_branches_of}
use Rattle.answered.specs.TextAnswer.{blank_branches, answered_with, read_as, Few, text_answer_by, second_answer}
use Rattle.case_text.specs.Text.{Reading}

module _ (s : List ℕ) (r : Reading) (read : BranchNetwork) (h : Reader.read_result (Reader.paper_of r) read ≡ Reader.read_second s blank_branches) where
  pub second-unread : (f : Refusal) → r ≡ Err f → (o : Outs) (w : List Float) → answered_with (Err f) o blank_flows w ≡ second_answer s o w
  unfolding text_answer_by
  second-unread f k o w = rw (← h, k)

  module _ (c : Contents) (e : r ≡ Ok c) where
    branch-rows-fit : AtMost c.rows (branch_room_of blank_branches)
    unfolding Reader.read_second_by
    branch-rows-fit = fits-at-most c.rows (branch_room_of blank_branches) ((accepts Second s (branch_room_of blank_branches) _ blank_branches read r h c).0 e).1

    pub second-few : (found : Outcome) → Few (read_as c.rows.buses c.rows.branches found)
    second-few found = (branch-rows-fit.buses, branch-rows-fit.branches)

    pub second-room : RoomForBranches c.rows read
    unfolding Reader.read_second_by
    second-room =
        room-for-branches c.rows read (rw (writes Second s (branch_room_of blank_branches) _ blank_branches read r h c e, branch-filled-room s (trailer_start Second s) blank_branches) branch-rows-fit)

    pub second-read : (o : Outs) (w : List Float) (found : Outcome) (o' : Outs) (f : Flows) (w' : List Float)
        → branch_answer (answer (paper_of found) o' w') f ≡ solve_branches_of c.start (first_branch_rows c.rows read) o blank_flows w
        → answered_with (read_as c.rows.buses c.rows.branches found) o' f w' ≡ second_answer s o w
    unfolding text_answer_by
    second-read o w found o' f w' q = rw (← h, e, ← q)

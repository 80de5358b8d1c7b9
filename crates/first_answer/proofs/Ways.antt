-- The ways to the answer of a first-edition text: refused by the reader, or read, its rows fitting the columns. Assumes nothing.
use Rattle.std.specs.Prelude.{Ok, Err}
use Prim.Native.Nat.{ℕ}
use mathlib.Core.Path.{◌≡◌}
use mathlib.Core.List.{List}
use native.Mathlib.Omega.{arith}
use lib.Ieee.{Float}
use Rattle.network.specs.Network.{Network, AtMost, RoomFor, room_of, first_rows}
use Rattle.network.specs.Network.Laws.{fits-at-most, room_for}
use Rattle.trailer.specs.Trailer.{trailer_start}
use Rattle.trailer.specs.declared.Edition.TheVariants.{First}
use Rattle.case_text.specs.declared.Contents.{Contents}
use Rattle.case_text.specs.declared.Refusal.{Refusal}
use Rattle.case_text.specs.Answer as Reader
use Rattle.case_text.specs.Answer.Laws.{filled-room}
use Rattle.case_text.proofs.Unique.{accepts, writes}
use Rattle.outcome.specs.Outcome.{Outcome, Outs, paper_of}
use Rattle.flows.specs.Flows.{blank_flows}
use Rattle.tables.specs.Tables.{answer, solve_of}
use Rattle.answered.specs.TextAnswer.{blank, answered_with, read_as, Few, text_answer_by, first_answer}
use Rattle.case_text.specs.Text.{Reading}

module _ (s : List ℕ) (r : Reading) (read : Network) (h : Reader.read_result (Reader.paper_of r) read ≡ Reader.read_first s blank) where
  pub first-unread : (f : Refusal) → r ≡ Err f → (o : Outs) (w : List Float) → answered_with (Err f) o blank_flows w ≡ first_answer s o w
  unfolding text_answer_by
  first-unread f k o w = rw (← h, k)

  module _ (c : Contents) (e : r ≡ Ok c) where
    rows_fit : AtMost c.rows (room_of blank)
    unfolding Reader.read_first_by
    rows_fit = fits-at-most c.rows (room_of blank) ((accepts First s (room_of blank) _ blank read r h c).0 e).1

    pub first-few : (found : Outcome) → Few (read_as c.rows.buses 0 found)
    first-few found = (rows_fit.buses, omega arith)

    pub first-room : RoomFor c.rows read
    unfolding Reader.read_first_by
    first-room = room_for c.rows read (rw (writes First s (room_of blank) _ blank read r h c e, filled-room s (trailer_start First s) blank) rows_fit)

    pub first_read : (o : Outs) (w : List Float) (found : Outcome) (o' : Outs) (w' : List Float)
        → answer (paper_of found) o' w' ≡ solve_of c.start (first_rows c.rows read) o w
        → answered_with (read_as c.rows.buses 0 found) o' blank_flows w' ≡ first_answer s o w
    unfolding text_answer_by
    first_read o w found o' w' q = rw (← h, e, ← q)

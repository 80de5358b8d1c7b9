-- What a record of the list says: the text and the answer that the solve program must print of it.
use Rattle.std.specs.Prelude.{ℕ, ◌≡◌, List, take, Float}
use Rattle.vectors.specs.Words.{pair_of}
use Rattle.report.specs.Report.{report_of}

-- the bytes that the definition prints of a text
abbrev pub bytes_of : List ℕ → List Float → List ℕ
bytes_of text w = (report_of text w).bytes

-- the report of a record's text is its answer: four bytes tell how many places of each buffer are theirs
abbrev pub Answered : List ℕ → List ℕ → List ℕ → List Float → Type 0
Answered head text answer w = bytes_of (take (pair_of 0 head) text) w ≡ take (pair_of 2 head) answer

-- What a record of the input says of a text's reading: the answer, and every place of every column (oracle/text_vectors.py has the format).
use Rattle.std.specs.Prelude.{◌≡◌, cond, List, [], ◌∷◌, ℕ, ◌+◌, ◌*◌, min, eqb, take, replicate, Float}
use Rattle.std.specs.Float.{binary64}
use Rattle.std.specs.Float.Ieee.{of_bits}
use Rattle.real.specs.declared.Value.TheVariants.{Whole}
use Rattle.real.specs.Paper.{Paper, given, refused, place_in}
use Rattle.real.specs.Each.{each}
use Rattle.real.specs.Literals.{lit}
use Rattle.vectors.specs.Words.{pair_of, word_of}
use Rattle.trailer.specs.Trailer.{flagged, mode_of}
use Rattle.trailer.specs.declared.Edition.{Edition}
use Rattle.trailer.specs.declared.Edition.TheVariants.{First, Second}
use Rattle.network.specs.declared.Rows.{Rows}
use Rattle.network.specs.Network.{Buses, Slacks, Generators, Branches, Triplets, Network, buses_of, slacks_of, generators_of, branches_of, triplets_of, network_of, row_counts}
use Rattle.network.specs.BranchTable.{Values, BranchTable, values_of, branch_table_of}
use Rattle.case_text.specs.Answer.{ReadResult, read_result}
use Rattle.reader.specs.Reader.{Columns, columns_of, read_of}
use Rattle.case_text.specs.declared.Contents.{Contents}

-- an answer's number, 0 of a good one, and its place, 0 where it has none
abbrev pub number_in : Paper Contents → ℕ
number_in (given c) = 0
number_in (refused n values) = n

abbrev pub place_of : Paper Contents → ℕ
place_of (given c) = 0
place_of (refused n values) = place_in values

-- the refusal of a number; 9 has no place
abbrev pub refusal : ℕ → ℕ → Paper Contents
refusal n at = refused n (cond (eqb n 9) [] (Whole at ∷ []))

-- the answer of a number: 0 stands for a good one
abbrev pub answer : ℕ → ℕ → Contents → Paper Contents
answer n at c = cond (eqb n 0) (given c) (refusal n at)

-- a column's rows
abbrev pub rows_in : List ℕ → ℕ → ℕ
rows_in s j = pair_of (10 + j * 4) s

-- the branches' rows are those of the lines L or K, and only the first edition has triplets
abbrev pub branch_rows : Edition → List ℕ → ℕ
branch_rows First s = rows_in s 13
branch_rows Second s = rows_in s 19

abbrev pub triplet_rows : Edition → List ℕ → ℕ
triplet_rows First s = rows_in s 15
triplet_rows Second s = 0

-- the rows of each table are those of its first column
abbrev pub rows_told : Edition → List ℕ → Rows
rows_told e s = row_counts (rows_in s 0) (rows_in s 8) (rows_in s 10) (branch_rows e s) (triplet_rows e s)

-- the edition of a letter of the trailer
abbrev pub edition_by : ℕ → Edition
edition_by letter = cond (flagged Second letter) Second First

abbrev pub contents_by : Edition → List ℕ → Contents
contents_by e s = record { edition = e; start = mode_of e (pair_of 4 s); rows = rows_told e s }

abbrev pub contents_told : List ℕ → Contents
contents_told s = contents_by (edition_by (pair_of 4 s)) s

abbrev pub paper_told : List ℕ → Paper Contents
paper_told s = answer (pair_of 0 s) (pair_of 2 s) (contents_told s)

-- how many places of each column are lent
abbrev pub width_told : List ℕ → ℕ
width_told s = min (pair_of 6 s) 258

-- the word of place i of column j: the rows' stand one behind the other, and behind them that of every place past the rows
unfoldable pub word_told : List ℕ → ℕ → ℕ → ℕ
word_told s j i = word_of (pair_of (8 + j * 4) s + min i (rows_in s j) * 8) s

-- column j's lent places
abbrev pub numbers_told : List ℕ → ℕ → List ℕ
numbers_told s j = each (width_told s) (word_told s j)

abbrev pub reals_told : List ℕ → ℕ → List Float
reals_told s j = each (width_told s) (λ i. of_bits binary64 (word_told s j i))

-- each table, its columns in the order of its line
abbrev pub buses_told : List ℕ → Buses
buses_told s = buses_of (numbers_told s 0) (reals_told s 1) (reals_told s 2) (reals_told s 3) (reals_told s 4) (reals_told s 5) (reals_told s 6) (reals_told s 7)

abbrev pub slacks_told : List ℕ → Slacks
slacks_told s = slacks_of (numbers_told s 8) (reals_told s 9)

abbrev pub generators_told : List ℕ → Generators
generators_told s = generators_of (numbers_told s 10) (reals_told s 11) (reals_told s 12)

-- columns j and j + 1, of the lines L and of the lines K
abbrev pub branches_told : List ℕ → ℕ → Branches
branches_told s j = branches_of (numbers_told s j) (numbers_told s (j + 1))

abbrev pub triplets_told : List ℕ → Triplets
triplets_told s = triplets_of (numbers_told s 15) (numbers_told s 16) (reals_told s 17) (reals_told s 18)

abbrev pub values_told : List ℕ → Values
values_told s =
    values_of (reals_told s 21) (reals_told s 22) (reals_told s 23) (reals_told s 24) (reals_told s 25) (reals_told s 26) (reals_told s 27) (reals_told s 28) (reals_told s 29)

abbrev pub network_told : List ℕ → Network
network_told s = network_of (buses_told s) (slacks_told s) (generators_told s) (branches_told s 13) (triplets_told s)

abbrev pub branch_table_told : List ℕ → BranchTable
branch_table_told s = branch_table_of (branches_told s 19) (values_told s)

abbrev pub outcome_told : List ℕ → ReadResult Columns
outcome_told s = read_result (paper_told s) (columns_of (network_told s) (branch_table_told s))

-- the mark that stands in every place before a reading: 251 is no kind's byte and no bus number of these texts, and no real of 15 digits is 1e300
abbrev pub number_mark : ℕ
number_mark = 251

abbrev pub real_mark : Float
real_mark = lit 0x7e37_e43c_8800_759c

-- the first m places of columns of marks
abbrev pub network_marks : ℕ → Network
network_marks m =
    let n = take m (replicate 258 number_mark) in
    let x = take m (replicate 258 real_mark) in
    network_of (buses_of n x x x x x x x) (slacks_of n x) (generators_of n x x) (branches_of n n) (triplets_of n n x x)

abbrev pub branch_table_marks : ℕ → BranchTable
branch_table_marks m =
    let n = take m (replicate 258 number_mark) in
    let x = take m (replicate 258 real_mark) in
    branch_table_of (branches_of n n) (values_of x x x x x x x x x)

-- the reader's definition gives what the record says of the text
abbrev pub Agrees : List ℕ → List ℕ → Type 0
Agrees text s = read_of text (columns_of (network_marks (width_told s)) (branch_table_marks (width_told s))) ≡ outcome_told s

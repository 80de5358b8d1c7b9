-- 01's examples of the reader, by computation: the listing's text reads to its tables, and `1.` in a line is refused 5 at its place.
-- `fields` has `-0` and `-0.25` as values (`minus-zero`, `minus-quarter`); here they are read from a text. Assumes nothing.
use Rattle.std.specs.Prelude.{Ok, Err}
use mathlib.Core.Path.{◌≡◌, refl, ap, ◌∙◌}
use mathlib.Core.Bool.{true}
use mathlib.Core.List.{List, [], ◌∷◌, ◌++◌}
use Prim.Native.Nat.{ℕ}
use lib.ListN.{set}
use lib.Seq.{sets}
use lib.Ieee.{Float, nan, of_bits, div, neg, of_int}
use Rattle.real.specs.Tests.{both}
use Rattle.real.specs.declared.Value.TheVariants.{Whole}
use Rattle.real.specs.Paper.{given, refused}
use Rattle.real.specs.Literals.{lit, nought, one}
use Rattle.fields.specs.Cut.{upto, past, has, pieces}
use Rattle.fields.specs.Digits.{digits, number, counted}
use Rattle.fields.specs.Real.{allowed, amount_by}
use Rattle.fields.specs.Before.{allowed_before}
use Rattle.fields.proofs.Examples.{padded}
use Rattle.rows.specs.Line.{all_some, fields_by}
use Rattle.rows.specs.Rows.{section_by, ended}
use Rattle.rows.specs.declared.Section.TheVariants as Section
use Rattle.columns.specs.Columns.{column_of, kind_field, real_field, number_field}
use Rattle.case_text.specs.Alphabet.{known_of}
use Rattle.trailer.specs.Trailer.{edition_of, rising_of, trailer_of, bytes_of}
use Rattle.trailer.specs.declared.Edition.TheVariants.{First, Second}
use Rattle.case_text.specs.Text.{part_by, body_by, text_by, checked_text, text_of}
use Rattle.network.specs.Network.{Network, Slacks, buses_of, slacks_of, generators_of, branches_of, triplets_of, network_of, row_counts, room_of, fits_of}
use Rattle.case_text.specs.Answer.{read_result, filled_from, tables_by, filled_of, read_first_by, read_first}
use Rattle.case_text.specs.declared.Contents.{Contents}
use Rattle.starts.specs.declared.AcStart.TheVariants.{Flat}
use Rattle.case_text.specs.declared.Refusal.{Refusal}

-- the listing of 01, "One listing in full": 73 bytes
abbrev pub listing : List ℕ
listing =
    66 ∷ 32 ∷ 81 ∷ 32 ∷ 49 ∷ 32 ∷ 48 ∷ 32 ∷ 48 ∷ 32 ∷ 48 ∷ 32 ∷ 48 ∷ 32 ∷ 63 ∷ 32 ∷ 63 ∷ 10 ∷ 82 ∷ 32 ∷ 48 ∷ 32 ∷ 48 ∷ 10 ∷ 89 ∷ 32 ∷ 48 ∷ 32 ∷ 48 ∷ 32 ∷ 50 ∷ 32 ∷ 45 ∷ 56 ∷ 10 ∷ 70 ∷ 32 ∷ 48 ∷ 48 ∷ 48 ∷ 48 ∷ 48 ∷ 32 ∷ 48 ∷ 48 ∷ 48 ∷ 49 ∷ 56 ∷ 32 ∷ 48 ∷ 48 ∷ 48 ∷ 50 ∷ 52 ∷ 32 ∷ 48 ∷ 48 ∷ 48 ∷ 50 ∷ 52 ∷ 32 ∷ 48 ∷ 48 ∷ 48 ∷ 50 ∷ 52 ∷ 32 ∷ 48 ∷ 48 ∷ 48 ∷ 51 ∷ 53 ∷ 10 ∷ []

abbrev pub listing_contents : Contents
listing_contents = record { edition = First; start = Flat; rows = row_counts 1 1 0 0 1 }

pub listing-text : text_of listing ≡ Ok listing_contents
unfolding text_by edition_of bytes_of part_by body_by trailer_of rising_of known_of section_by fields_by all_some pieces upto past has digits number counted allowed amount_by
listing-text = refl

pub listing-edition : edition_of listing ≡ First
unfolding edition_of
listing-edition = refl

listing-first : checked_text First listing ≡ Ok listing_contents
unfolding text_by bytes_of part_by body_by trailer_of rising_of known_of section_by fields_by all_some pieces upto past has digits number counted allowed amount_by
listing-first = refl

-- its sections' bytes, as its trailer cuts them
abbrev line_b : List ℕ
line_b = 66 ∷ 32 ∷ 81 ∷ 32 ∷ 49 ∷ 32 ∷ 48 ∷ 32 ∷ 48 ∷ 32 ∷ 48 ∷ 32 ∷ 48 ∷ 32 ∷ 63 ∷ 32 ∷ 63 ∷ 10 ∷ []

abbrev line_r : List ℕ
line_r = 82 ∷ 32 ∷ 48 ∷ 32 ∷ 48 ∷ 10 ∷ []

abbrev line_y : List ℕ
line_y = 89 ∷ 32 ∷ 48 ∷ 32 ∷ 48 ∷ 32 ∷ 50 ∷ 32 ∷ 45 ∷ 56 ∷ 10 ∷ []

-- 02, Ask 2: the listing with the voltage `0000000.0250000000` is accepted; by 01's digit rule that field was refused 5
abbrev padded_rest : List ℕ
padded_rest = 32 ∷ 48 ∷ 32 ∷ 48 ∷ 32 ∷ 48 ∷ 32 ∷ 48 ∷ 32 ∷ 63 ∷ 32 ∷ 63 ∷ 10 ∷ []

abbrev padded_starts : List ℕ
padded_starts =
    70 ∷ 32 ∷ 48 ∷ 48 ∷ 48 ∷ 48 ∷ 48 ∷ 32 ∷ 48 ∷ 48 ∷ 48 ∷ 51 ∷ 53 ∷ 32 ∷ 48 ∷ 48 ∷ 48 ∷ 52 ∷ 49 ∷ 32 ∷ 48
    ∷ 48 ∷ 48 ∷ 52 ∷ 49 ∷ 32 ∷ 48 ∷ 48 ∷ 48 ∷ 52 ∷ 49 ∷ 32 ∷ 48 ∷ 48 ∷ 48 ∷ 53 ∷ 50 ∷ 10 ∷ []

abbrev padded_text : List ℕ
padded_text = (66 ∷ 32 ∷ 81 ∷ 32 ∷ []) ++ (padded ++ (padded_rest ++ (line_r ++ (line_y ++ padded_starts))))

pub padded-accepted : text_of padded_text ≡ Ok listing_contents
unfolding text_by edition_of bytes_of part_by body_by trailer_of rising_of known_of section_by fields_by all_some pieces upto past has digits number counted allowed amount_by
padded-accepted = refl

pub padded-before : text_by allowed_before First padded_text ≡ Err (Refusal.Field 4)
unfolding text_by edition_of bytes_of part_by body_by trailer_of rising_of known_of section_by fields_by all_some pieces upto past has digits number allowed_before amount_by
padded-before = refl

bytes-b : bytes_of Section.B listing 35 ≡ line_b
unfolding bytes_of digits number
bytes-b = refl

bytes-r : bytes_of Section.R listing 35 ≡ line_r
unfolding bytes_of digits number
bytes-r = refl

bytes-g : bytes_of Section.G listing 35 ≡ []
unfolding bytes_of digits number
bytes-g = refl

bytes-l : bytes_of Section.L listing 35 ≡ []
unfolding bytes_of digits number
bytes-l = refl

bytes-y : bytes_of Section.Y listing 35 ≡ line_y
unfolding bytes_of digits number
bytes-y = refl

abbrev two : Float
two = lit 0x4000_0000_0000_0000

abbrev minus_eight : Float
minus_eight = lit 0xc020_0000_0000_0000

-- one bus, one slack row and one triplet, in the first places of the columns, whatever stood there
abbrev pub listing_tables : Network → Network
listing_tables t =
    let b = t.buses in
    let y = t.triplets in
    network_of
    (buses_of (set b.kind 0 81) (set b.vm_set 0 one) (set b.pd 0 nought) (set b.qd 0 nought) (set b.pg 0 nought) (set b.qg 0 nought)
    (set b.vm_case 0 nan) (set b.va_case 0 nan))
    (slacks_of (set t.slacks.bus 0 0) (set t.slacks.angle 0 nought))
    t.generators
    t.branches
    (triplets_of (set y.row 0 0) (set y.col 0 0) (set y.re 0 two) (set y.im 0 minus_eight))

values-b : (column_of (kind_field 0) line_b ≡ 81 ∷ []) × (column_of (real_field 1) line_b ≡ one ∷ []) × (column_of (real_field 2) line_b ≡ nought ∷ [])
    × (column_of (real_field 3) line_b ≡ nought ∷ []) × (column_of (real_field 4) line_b ≡ nought ∷ []) × (column_of (real_field 5) line_b ≡ nought ∷ [])
    × (column_of (real_field 6) line_b ≡ nan ∷ []) × (column_of (real_field 7) line_b ≡ nan ∷ [])
unfolding ended pieces upto past has digits number counted allowed amount_by of_bits div neg of_int
values-b = (refl, refl, refl, refl, refl, refl, refl, refl)

values-r : (column_of (number_field 0) line_r ≡ 0 ∷ []) × (column_of (real_field 1) line_r ≡ nought ∷ [])
unfolding ended pieces upto past has digits number counted allowed amount_by of_bits div neg of_int
values-r = (refl, refl)

values-y : (column_of (number_field 0) line_y ≡ 0 ∷ []) × (column_of (number_field 1) line_y ≡ 0 ∷ []) × (column_of (real_field 2) line_y ≡ two ∷ []) × (column_of (real_field 3) line_y ≡ minus_eight ∷ [])
unfolding ended pieces upto past has digits number counted allowed amount_by of_bits div neg of_int
values-y = (refl, refl, refl, refl)

nothing : {A : Type 0} (f : List ℕ → A) → column_of f [] ≡ []
unfolding ended pieces upto past has
nothing f = refl

lines-written : (old : Network) → filled_from allowed line_b line_r [] [] line_y old ≡ listing_tables old
lines-written old = λ i.
    let b = old.buses in
    let g = old.generators in
    let y = old.triplets in
    network_of
    (buses_of (sets b.kind 0 (values-b.0 i)) (sets b.vm_set 0 (values-b.1 i)) (sets b.pd 0 (values-b.2 i)) (sets b.qd 0 (values-b.3 i))
    (sets b.pg 0 (values-b.4 i)) (sets b.qg 0 (values-b.5 i)) (sets b.vm_case 0 (values-b.6 i)) (sets b.va_case 0 (values-b.7 i)))
    (slacks_of (sets old.slacks.bus 0 (values-r.0 i)) (sets old.slacks.angle 0 (values-r.1 i)))
    (generators_of (sets g.bus 0 (nothing (number_field 0) i)) (sets g.qmin 0 (nothing (real_field 1) i)) (sets g.qmax 0 (nothing (real_field 2) i)))
    (branches_of (sets old.branches.from 0 (nothing (number_field 0) i)) (sets old.branches.to 0 (nothing (number_field 1) i)))
    (triplets_of (sets y.row 0 (values-y.0 i)) (sets y.col 0 (values-y.1 i)) (sets y.re 0 (values-y.2 i)) (sets y.im 0 (values-y.3 i)))

listing-written : (old : Network) → filled_of listing 35 old ≡ listing_tables old
unfolding tables_by
listing-written old = (λ i. filled_from allowed (bytes-b i) (bytes-r i) (bytes-g i) (bytes-l i) (bytes-y i) old) ∙ lines-written old

pub listing-read : (old : Network) → fits_of listing_contents.rows (room_of old) ≡ true → read_first listing old ≡ read_result (given listing_contents) (listing_tables old)
unfolding read_first_by
listing-read old h = rw (listing-first, h) (ap (read_result (given listing_contents)) (listing-written old))

-- a bus line whose second field is `1.`
abbrev pub point_text : List ℕ
point_text =
    66 ∷ 32 ∷ 81 ∷ 32 ∷ 49 ∷ 46 ∷ 32 ∷ 48 ∷ 32 ∷ 48 ∷ 32 ∷ 48 ∷ 32 ∷ 48 ∷ 32 ∷ 63 ∷ 32 ∷ 63 ∷ 10 ∷ 70 ∷ 32 ∷ 48 ∷ 48 ∷ 48 ∷ 48 ∷ 48 ∷ 32 ∷ 48 ∷ 48 ∷ 48 ∷ 49 ∷ 57 ∷ 32 ∷ 48 ∷ 48 ∷ 48 ∷ 49 ∷ 57 ∷ 32 ∷ 48 ∷ 48 ∷ 48 ∷ 49 ∷ 57 ∷ 32 ∷ 48 ∷ 48 ∷ 48 ∷ 49 ∷ 57 ∷ 32 ∷ 48 ∷ 48 ∷ 48 ∷ 49 ∷ 57 ∷ 10 ∷ []

pub point-refused : (old : Network) → read_first point_text old ≡ read_result (refused 5 (Whole 4 ∷ [])) old
unfolding read_first_by tables_by text_by bytes_of part_by body_by trailer_of rising_of known_of section_by ended fields_by all_some pieces upto past has digits number counted allowed amount_by of_bits div neg of_int
point-refused old = refl

-- two slack rows with the angles `-0` and `-0.25`
abbrev pub minus_text : List ℕ
minus_text =
    82 ∷ 32 ∷ 48 ∷ 32 ∷ 45 ∷ 48 ∷ 10 ∷ 82 ∷ 32 ∷ 49 ∷ 32 ∷ 45 ∷ 48 ∷ 46 ∷ 50 ∷ 53 ∷ 10 ∷ 70 ∷ 32 ∷ 48 ∷ 48 ∷ 48 ∷ 48 ∷ 48 ∷ 32 ∷ 48 ∷ 48 ∷ 48 ∷ 48 ∷ 48 ∷ 32 ∷ 48 ∷ 48 ∷ 48 ∷ 49 ∷ 55 ∷ 32 ∷ 48 ∷ 48 ∷ 48 ∷ 49 ∷ 55 ∷ 32 ∷ 48 ∷ 48 ∷ 48 ∷ 49 ∷ 55 ∷ 32 ∷ 48 ∷ 48 ∷ 48 ∷ 49 ∷ 55 ∷ 10 ∷ []

-- slack rows and no others
abbrev no_rows : Slacks → Network
no_rows r = network_of (buses_of [] [] [] [] [] [] [] []) r (generators_of [] [] []) (branches_of [] []) (triplets_of [] [] [] [])

pub minus-read : (i j : ℕ) (u v : Float)
    → read_first minus_text (no_rows (slacks_of (i ∷ j ∷ []) (u ∷ v ∷ [])))
    ≡ read_result (given (record { edition = First; start = Flat; rows = row_counts 0 2 0 0 0 })) (no_rows (slacks_of (0 ∷ 1 ∷ []) (lit 0x8000_0000_0000_0000 ∷ lit 0xbfd0_0000_0000_0000 ∷ [])))
unfolding both read_first_by tables_by text_by bytes_of part_by body_by trailer_of rising_of known_of section_by ended fields_by all_some pieces upto past has digits number counted allowed amount_by of_bits div neg of_int
minus-read i j u v = refl

pub point-edition : edition_of point_text ≡ First
unfolding edition_of
point-edition = refl

-- 02, Ask 3: a second-edition text of 99 bytes. It has two `B` lines, `R 0 0`, `K 0 1 1 -8 0 0 0 0 1 0 1` and a trailer with `f`; by the first edition's rules it is refused 2
abbrev branch_listing : List ℕ
branch_listing =
    66 ∷ 32 ∷ 81 ∷ 32 ∷ 49 ∷ 32 ∷ 48 ∷ 32 ∷ 48 ∷ 32 ∷ 48 ∷ 32 ∷ 48 ∷ 32 ∷ 63 ∷ 32 ∷ 63 ∷ 10 ∷ 66 ∷ 32 ∷ 81 ∷ 32 ∷ 49 ∷ 32 ∷ 48 ∷ 32 ∷ 48 ∷ 32 ∷
    48 ∷ 32 ∷ 48 ∷ 32 ∷ 63 ∷ 32 ∷ 63 ∷ 10 ∷ 82 ∷ 32 ∷ 48 ∷ 32 ∷ 48 ∷ 10 ∷ 75 ∷ 32 ∷ 48 ∷ 32 ∷ 49 ∷ 32 ∷ 49 ∷ 32 ∷ 45 ∷ 56 ∷ 32 ∷ 48 ∷ 32 ∷ 48 ∷
    32 ∷ 48 ∷ 32 ∷ 48 ∷ 32 ∷ 49 ∷ 32 ∷ 48 ∷ 32 ∷ 49 ∷ 10 ∷ 102 ∷ 32 ∷ 48 ∷ 48 ∷ 48 ∷ 48 ∷ 48 ∷ 32 ∷ 48 ∷ 48 ∷ 48 ∷ 51 ∷ 54 ∷ 32 ∷ 48 ∷ 48 ∷ 48 ∷
    52 ∷ 50 ∷ 32 ∷ 48 ∷ 48 ∷ 48 ∷ 52 ∷ 50 ∷ 32 ∷ 48 ∷ 48 ∷ 48 ∷ 54 ∷ 55 ∷ 10 ∷ []

pub branch-accepted : text_of branch_listing ≡ Ok (record { edition = Second; start = Flat; rows = row_counts 2 1 0 1 0 })
unfolding text_by edition_of bytes_of part_by body_by trailer_of rising_of known_of section_by fields_by all_some pieces upto past has digits number counted allowed amount_by
branch-accepted = refl

pub branch-before : checked_text First branch_listing ≡ Err (Refusal.Trailer 61)
unfolding text_by trailer_of rising_of digits number
branch-before = refl

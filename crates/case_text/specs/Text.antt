-- A whole case text: "1, 2, then 3 over the whole body; then line by line 6, 4, 5". All is said by the rules of an edition; its reals are read by a digit rule.
pub mod Laws
use Rattle.std.specs.Prelude.{ℕ, cond, List, ltb, length, get_or, Result, Ok, Err}
use Rattle.std.proofs.Math.Seq.{slice}
use Rattle.network.specs.Network.{row_counts}
use Rattle.fields.specs.Real.{DigitRule, allowed}
use Rattle.rows.specs.Rows.{check_by}
use Rattle.rows.specs.declared.Section.{Section}
use Rattle.rows.specs.declared.Section.TheVariants as Section
use Rattle.rows.specs.declared.Fault.{Fault}
use Rattle.rows.specs.Rows.{Check}
use Rattle.case_text.specs.Alphabet.{known_of}
use Rattle.trailer.specs.Trailer.{trailer_length, trailer_start, mode_of, edition_of, trailer_of, behind_g, section_start, bytes_of}
use Rattle.trailer.specs.declared.Edition.{Edition}
use Rattle.trailer.specs.declared.Edition.TheVariants.{First, Second}
use Rattle.case_text.specs.declared.Contents.{Contents}
use Rattle.case_text.specs.declared.Refusal.{Refusal}

-- the answer: what the text holds, or why it is refused
abbrev pub Reading : Type 0
Reading = Result Contents Refusal

-- what a section's fault is of the text
abbrev pub refusal_of : Fault → Refusal
refusal_of (Fault.Rows at) = Refusal.Rows at
refusal_of (Fault.Form at) = Refusal.Form at
refusal_of (Fault.Field at) = Refusal.Field at

-- a section's refusal is the text's; a good one hands its rows on
abbrev pub then_section : Check → (ℕ → Reading) → Reading
then_section (Ok n) k = k n
then_section (Err f) k = Err (refusal_of f)

module _ (rule : DigitRule) where
  -- a section, whose lines' and fields' places are places of the text
  unfoldable pub part_by : Section → List ℕ → ℕ → Check
  part_by z s t = check_by rule z (section_start z s t) (bytes_of z s t)

  -- the section Y, which the second edition does not have: it has no triplets
  abbrev pub triplet_part_by : Edition → List ℕ → ℕ → Check
  triplet_part_by First s t = part_by Section.Y s t
  triplet_part_by Second s t = Ok 0

-- the rows of good sections
abbrev pub after_y : Edition → List ℕ → ℕ → ℕ → ℕ → ℕ → ℕ → ℕ → Reading
after_y e s t nb nr ng nl ny =
    Ok (record { edition = e; start = mode_of e (get_or s t 0); rows = row_counts nb nr ng nl ny })

module _ (rule : DigitRule) (e : Edition) where
  -- "Sections B, R, G, L, Y stand in that order"; "in place of the L and Y sections a K section"
  abbrev pub after_l : List ℕ → ℕ → ℕ → ℕ → ℕ → ℕ → Reading
  after_l s t nb nr ng nl = then_section (triplet_part_by rule e s t) (after_y e s t nb nr ng nl)

  abbrev pub after_g : List ℕ → ℕ → ℕ → ℕ → ℕ → Reading
  after_g s t nb nr ng = then_section (part_by rule (behind_g e) s t) (after_l s t nb nr ng)

  abbrev pub after_r : List ℕ → ℕ → ℕ → ℕ → Reading
  after_r s t nb nr = then_section (part_by rule Section.G s t) (after_g s t nb nr)

  abbrev pub after_b : List ℕ → ℕ → ℕ → Reading
  after_b s t nb = then_section (part_by rule Section.R s t) (after_r s t nb)

  unfoldable pub body_by : List ℕ → ℕ → Reading
  body_by s t = then_section (part_by rule Section.B s t) (after_b s t)

  -- refusal 3 at the first byte before t that is not of the alphabet
  abbrev pub after_trailer : List ℕ → ℕ → Reading
  after_trailer s t = cond (ltb (known_of e (slice 0 t s)) t) (Err (Refusal.Byte (known_of e (slice 0 t s)))) (body_by s t)

  -- refusal 2 at the trailer's start
  abbrev pub after_length : List ℕ → ℕ → Reading
  after_length s t = cond (trailer_of e s t) (after_trailer s t) (Err (Refusal.Trailer t))

  -- refusal 1: "text under 38 bytes (place: its length) or over 32,768 (place: 32,768)"; of the second edition "its least length is 32"
  unfoldable pub text_by : List ℕ → Reading
  text_by s =
      cond (ltb (length s) (trailer_length e)) (Err (Refusal.Length (length s)))
      (cond (ltb 32768 (length s)) (Err (Refusal.Length 32768))
      (after_length s (trailer_start e s)))

-- ---- by 02's digit rule

abbrev pub part_of : Section → List ℕ → ℕ → Check
part_of = part_by allowed

abbrev pub triplet_part_of : Edition → List ℕ → ℕ → Check
triplet_part_of = triplet_part_by allowed

abbrev pub body_of : Edition → List ℕ → ℕ → Reading
body_of = body_by allowed

-- a text by an edition's rules
abbrev pub checked_text : Edition → List ℕ → Reading
checked_text = text_by allowed

-- and by those of its own
abbrev pub text_of : List ℕ → Reading
text_of s = checked_text (edition_of s) s

-- No byte of an accepted text is skipped: it is its rows and its trailer, printed; every field of a row is good, and the trailer's groups are
-- five digits; and every figure is the double nearest to its decimal. Assumes nothing.
use Rattle.std.specs.Prelude.{◌≡◌, refl, true, false, List, [], ◌∷◌, ◌++◌, ℕ, zero, suc, ◌+◌, ◌*◌, ◌≤◌, ◌<◌, eqb, length, get_or, take, drop, is_some, Ok}
use Rattle.std.proofs.Common.{sym, ap, ◌∙◌, ⊎_elim, append_assoc, add-one, arith, drop_of_length-le, take-append-drop, drop-cons, length-take-le, eqb-true, eq-eqb}
use Rattle.std.proofs.Math.Seq.{slice}
use Rattle.std.proofs.lemmas.List.{drop-append-le}
use Rattle.real.specs.Tests.{decided, true-false}
use Rattle.fields.specs.Digits.{digits, digits_of}
use Rattle.real.specs.Nearest.{NearestDouble}
use Rattle.fields.specs.Cut.{only}
use Rattle.fields.specs.Real.{allowed}
use Rattle.fields.specs.Decimal.{has_minus, numerator, denominator}
use Rattle.rows.specs.Asked.{field_count, want_of}
use Rattle.rows.specs.Rows.{rows_of}
use Rattle.rows.specs.Printed.{field_table}
use Rattle.rows.specs.Printed.Laws.{section-sound, SoundBy}
use Rattle.rows.proofs.Printed.{section-printed}
use Rattle.rows.specs.declared.Section.{Section}
use Rattle.columns.specs.Columns.{row_count, cell_of, real_field}
use Rattle.columns.specs.Figures.{Reals, figure-nearest}
use Rattle.trailer.specs.Trailer.{groups_of, width_of, trailer_length, trailer_start, edition_of, group_at, start_at, rising_of, trailer_of, index_of, behind_g, Starts, section_start, section_end, bytes_of}
use Rattle.trailer.specs.Trailer.Laws.{first_group, groups-after, GoodTrailer, good-trailer, rising, Within, within, starts-b, starts-r, starts-g, starts-behind-g, starts-last, g-meets}
use Rattle.trailer.specs.declared.Edition.{Edition}
use Rattle.trailer.specs.declared.Edition.TheVariants.{First, Second}
use Rattle.case_text.specs.Text.{part_by, part_of, triplet_part_of, checked_text, text_of}
use Rattle.case_text.specs.Text.Laws.{Accepted, accepted-has}
use Rattle.case_text.specs.Printed.{rows_printed, groups_printed, trailer_printed, end_printed, text_printed}
use Rattle.case_text.specs.declared.Contents.{Contents}

pub slice-join : (s : List ℕ) (a b : ℕ) → a ≤ b → b ≤ length s → slice a b s ++ drop b s ≡ drop a s
slice-join s a b h k =
    sym (drop-append-le a (take b s) (drop b s) (rw (length-take-le b s k) h)) ∙ ap (drop a) (take-append-drop b s)

drop-step : (s : List ℕ) (i : ℕ) → i < length s → drop i s ≡ get_or s i 0 ∷ drop (i + 1) s
drop-step s i h = rw add-one (drop-cons s i 0 h)

-- ---- the trailer

pub group-space : (s : List ℕ) (at : ℕ) → is_some (group_at s at) ≡ true → get_or s at 0 ≡ 32
group-space s at h = ⊎_elim (λ q. eqb-true (get_or s at 0) 32 q) (λ q. absurd (true-false (rw q at h) refl)) (decided (eqb (get_or s at 0) 32))

five-digits : (s : List ℕ) (at : ℕ) → is_some (digits_of 0 (slice (at + 1) (at + 6) s)) ≡ true → digits (slice (at + 1) (at + 6) s) ≡ true
five-digits s at h =
    ⊎_elim (λ q. q) (λ q. absurd (true-false (rw q at h) refl)) (decided (digits (slice (at + 1) (at + 6) s)))

pub group-digits : (s : List ℕ) (at : ℕ) → is_some (group_at s at) ≡ true → digits (slice (at + 1) (at + 6) s) ≡ true
group-digits s at h = five-digits s at (rw (eq-eqb (get_or s at 0) 32 (group-space s at h)) at h)

groups_printed_lem : (k : ℕ) (s : List ℕ) (at low end to : ℕ) → rising_of k s at low end ≡ true → at + 6 * k ≡ to → to ≤ length s
    → drop at s ≡ groups_printed k s at ++ drop to s
unfolding groups_printed
groups_printed_lem zero s at low end to h e w = let q : at ≡ to = omega arith in rw q
groups_printed_lem (suc k) s at low end to h e w =
    let g = (first_group k s at low end h).number in
    let rest = groups_printed_lem k s (at + 6) (start_at s at) end to (groups-after k s at low end h (at + 6) refl) (omega arith) w in
    drop-step s at (omega arith)
    ∙ rw (group-space s at g, ← slice-join s (at + 1) (at + 6) (omega arith) (omega arith), rest) (ap (λ (x : List ℕ). 32 ∷ x) (sym (append_assoc (slice (at + 1) (at + 6) s) (groups_printed k s (at + 6)) (drop to s))))

trailer_printed_lem : (k : ℕ) (s : List ℕ) (t : ℕ) → t + width_of k ≡ length s → GoodTrailer k s t → drop t s ≡ trailer_printed k s t
trailer_printed_lem k s t h w =
    let e = t + 1 + 6 * k in
    let ends : length s ≤ e + 1 = omega arith in
    let lf : drop e s ≡ 10 ∷ [] = drop-step s e (omega arith) ∙ rw (w.end, drop_of_length-le s ends) in
    drop-step s t (omega arith)
    ∙ ap (λ (x : List ℕ). get_or s t 0 ∷ x)
    (groups_printed_lem k s (t + 1) 0 t e w.groups_rise refl (omega arith) ∙ ap (λ (x : List ℕ). groups_printed k s (t + 1) ++ x) lf)

-- ---- the sections

part-printed : (z : Section) (s : List ℕ) (t n : ℕ) (rest : List ℕ) → section_start z s t ≤ section_end z s t → section_end z s t ≤ length s → part_of z s t ≡ Ok n
    → drop (section_end z s t) s ≡ rest → drop (section_start z s t) s ≡ rows_printed z s t ++ rest
unfolding part_by bytes_of
part-printed z s t n rest h k g q =
    sym (slice-join s (section_start z s t) (section_end z s t) h k) ∙ ap (λ (x : List ℕ). slice (section_start z s t) (section_end z s t) s ++ x) q
    ∙ ap (λ (x : List ℕ). x ++ rest) (section-printed z (section_start z s t) (slice (section_start z s t) (section_end z s t) s) n g)

-- ---- the whole

module _ (e : Edition) (s : List ℕ) (t : ℕ) (long : t + trailer_length e ≡ length s) (good : trailer_of e s t ≡ true) where
  lies : (z : Section) → Starts e z → Within (section_start z s t) (section_end z s t) t
  lies = within e s t good

  -- a good section that the trailer has the start of, and what follows it
  section-then : (z : Section) → Starts e z → (n : ℕ) (rest : List ℕ) → part_of z s t ≡ Ok n → drop (section_end z s t) s ≡ rest
      → drop (section_start z s t) s ≡ rows_printed z s t ++ rest
  section-then z b n rest g q = part-printed z s t n rest (lies z b).ordered (omega (arith, (lies z b).inside)) g q

  trailer-at : (z : Section) → index_of z + 1 + 1 ≡ groups_of e → drop (section_end z s t) s ≡ trailer_printed (groups_of e) s t
  trailer-at z last =
      let g = good-trailer e s t good in
      ap (λ (n : ℕ). drop n s) ((rising (groups_of e) s t g).last (index_of z + 1) last) ∙ trailer_printed_lem (groups_of e) s t long g

-- what stands behind the lines
end_printed_lem : (e : Edition) (s : List ℕ) (t n : ℕ) → t + trailer_length e ≡ length s → trailer_of e s t ≡ true → triplet_part_of e s t ≡ Ok n
    → drop (section_end (behind_g e) s t) s ≡ end_printed e s t
end_printed_lem First s t n long good h = section-then First s t long good Section.Y (starts-last First) n _ h (trailer-at First s t long good Section.Y refl)
end_printed_lem Second s t n long good h = trailer-at Second s t long good Section.K refl

-- a text that an edition accepts
pub edition-printed : (e : Edition) (s : List ℕ) (c : Contents) → checked_text e s ≡ Ok c → s ≡ text_printed e s (trailer_start e s)
edition-printed e s c h =
    let t = trailer_start e s in
    let a = accepted-has e s c h in
    let b = a.body in
    let long : t + trailer_length e ≡ length s = omega (arith, a.least) in
    let part = section-then e s t long a.trailer in
    ap (λ (n : ℕ). drop n s) (sym (good-trailer e s t a.trailer).zero_first)
    ∙ part Section.B (starts-b e) c.rows.buses _ b.buses
    (part Section.R (starts-r e) c.rows.slacks _ b.slacks
    (part Section.G (starts-g e) c.rows.generators _ b.generators
    (ap (λ (n : ℕ). drop n s) (g-meets e s t)
    ∙ part (behind_g e) (starts-behind-g e) c.rows.branches _ b.branches (end_printed_lem e s t c.rows.triplets long a.trailer b.triplets))))

-- a text that is accepted, by the rules of its own edition
pub text_printed_lem : (s : List ℕ) (c : Contents) → text_of s ≡ Ok c → s ≡ text_printed (edition_of s) s (trailer_start (edition_of s) s)
text_printed_lem s = edition-printed (edition_of s) s

-- every field of every row is what is asked of it
pub fields-sound : (s : List ℕ) (t n : ℕ) (z : Section) → part_of z s t ≡ Ok n → (k : ℕ) → k < length (rows_of (bytes_of z s t))
    → SoundBy allowed z (get_or (field_table (bytes_of z s t)) k [])
unfolding part_by
fields-sound s t n z h k i = section-sound allowed z (section_start z s t) (bytes_of z s t) n h k i

-- ---- the figures

-- the sections that an edition has
abbrev pub Has : Edition → Section → Type 0
Has e Section.B = Unit
Has e Section.R = Unit
Has e Section.G = Unit
Has First Section.L = Unit
Has First Section.Y = Unit
Has First Section.K = ⊥
Has Second Section.L = ⊥
Has Second Section.Y = ⊥
Has Second Section.K = Unit

-- each section of an accepted text has sound rows
accepted-part : (e : Edition) (s : List ℕ) (t : ℕ) (c : Contents) (z : Section) → Has e z → Accepted e s t c → (n : ℕ) × (part_of z s t ≡ Ok n)
accepted-part e s t c Section.B h a = (c.rows.buses, a.body.buses)
accepted-part e s t c Section.R h a = (c.rows.slacks, a.body.slacks)
accepted-part e s t c Section.G h a = (c.rows.generators, a.body.generators)
accepted-part First s t c Section.L h a = (c.rows.branches, a.body.branches)
accepted-part First s t c Section.Y h a = (c.rows.triplets, a.body.triplets)
accepted-part First s t c Section.K h a = absurd h
accepted-part Second s t c Section.L h a = absurd h
accepted-part Second s t c Section.Y h a = absurd h
accepted-part Second s t c Section.K h a = (c.rows.branches, a.body.branches)

-- every figure that is read of an accepted text is the double nearest to the decimal that stands in its line; `?` stands for none
pub text-figures : (e : Edition) (s : List ℕ) (c : Contents) → checked_text e s ≡ Ok c → (z : Section) → Has e z → (k j : ℕ) → let l = bytes_of z s (trailer_start e s) in
    k < row_count l → j < field_count z → Reals (want_of z j) → let f = cell_of j (get_or (rows_of l) k []) in only 63 f ≡ false
    → NearestDouble (real_field j (get_or (rows_of l) k [])) (has_minus f) (numerator f) (denominator f)
text-figures e s c h z has k j p g r q =
    let t = trailer_start e s in
    let part = accepted-part e s t c z has (accepted-has e s c h) in
    figure-nearest z (bytes_of z s t) (fields-sound s t part.0 z part.1) k j p g r q

-- Every text that 01's digit rule accepted is read as it was, its columns too; any other first-edition text is answered as it was, or it is moved. 01's reader is
-- that of the first edition. What is answered to any text is in proofs/Before. Assumes nothing.
use Rattle.std.specs.Prelude.{ℕ, ◌+◌, ◌≤◌, ◌<◌, ◌≡◌, true, ◌⊎◌, List, ltb, drop, Ok, Err}
use Rattle.std.proofs.Math.Path.{refl, sym}
use Rattle.std.proofs.Common.{◌∙◌, arith}
use Rattle.std.proofs.Math.Logic.{inl, inr, ⊎_elim}
use Rattle.std.proofs.Math.ListN.{length}
use Rattle.std.proofs.Math.Seq.{slice, length-slice}
use Rattle.real.specs.Tests.{decided, no-case}
use Rattle.real.specs.Paper.{on_given}
use Rattle.network.specs.Network.{Network, network_of, room_of}
use Rattle.fields.specs.Real.{allowed}
use Rattle.fields.specs.Cut.{pieces}
use Rattle.fields.specs.Before.{allowed_before}
use Rattle.rows.specs.Printed.{field_table}
use Rattle.rows.specs.Printed.Laws.{section-sound}
use Rattle.rows.specs.Before.{Behind, Moved}
use Rattle.rows.specs.Before.Laws.{section-behind}
use Rattle.rows.proofs.Before.{check-before}
use Rattle.rows.specs.declared.Section.{Section}
use Rattle.rows.specs.declared.Fault.{Fault}
use Rattle.rows.specs.Rows.{Check}
use Rattle.columns.specs.Columns.{filled_branches}
use Rattle.columns.specs.Figures.{RowsSound}
use Rattle.columns.specs.Before.{buses-kept, slacks-kept, generators-kept, triplets-kept}
use Rattle.trailer.specs.Trailer.{trailer_length, trailer_start, trailer_of, Starts, section_start, section_end, bytes_of}
use Rattle.trailer.specs.Trailer.Laws.{Within, within, starts-b, starts-r, starts-g, starts-behind-g, starts-last}
use Rattle.trailer.specs.declared.Edition.TheVariants.{First}
use Rattle.case_text.specs.Alphabet.{known_of}
use Rattle.case_text.specs.Text.{Reading, then_section, part_by, part_of, after_l, after_g, after_r, after_b, body_by, body_of, after_trailer, after_length, text_by, checked_text, text_of}
use Rattle.case_text.specs.Text.Laws.{has-by}
use Rattle.case_text.specs.Answer.{paper_of, with_room, tables_by, filled_of, read_result, read_first_by, read_first}
use Rattle.case_text.specs.Printed.Laws.{slice-join}
use Rattle.case_text.specs.Old.{accepted-first}
use Rattle.case_text.specs.Before.{BehindText, MovedText}
use Rattle.case_text.specs.declared.Contents.{Contents}
use Rattle.case_text.specs.declared.Refusal.{Refusal}

-- the same reading, or one that is moved
abbrev pub SameOrMoved : List ℕ → ℕ → Reading → Reading → Type 0
SameOrMoved s t v v' = (v ≡ v') ⊎ MovedText s t v v'

-- ---- a section and what follows it

then-behind : (p : ℕ) (v : Check) (k : ℕ → Reading) → Behind p v → ((n : ℕ) → BehindText p (k n)) → BehindText p (then_section v k)
then-behind p (Ok n) k h g = g n
then-behind p (Err (Fault.Rows n)) k h g = h
then-behind p (Err (Fault.Form n)) k h g = h
then-behind p (Err (Fault.Field n)) k h g = h

module _ (s : List ℕ) (t : ℕ) where
  then_same : (v : Check) (k k' : ℕ → Reading) → ((n : ℕ) → SameOrMoved s t (k n) (k' n)) → SameOrMoved s t (then_section v k) (then_section v k')
  then_same (Ok n) k k' h = h n
  then_same (Err f) k k' h = inl refl

  -- a trailer at t is good, and t lies in the text
  module _ (good : trailer_of First s t ≡ true) (room : t ≤ length s) where
    lies : (z : Section) → Starts First z → Within (section_start z s t) (section_end z s t) t
    lies = within First s t good

    part-behind : (z : Section) (p : ℕ) → p < section_start z s t → Behind p (part_of z s t)
    unfolding part_by
    part-behind z p h = section-behind z p 0 (section_start z s t) (pieces 10 (bytes_of z s t)) h

    part-before : (z : Section) → Starts First z → (part_by allowed_before z s t ≡ part_of z s t)
        ⊎ ((m : Moved s z (field_table (bytes_of z s t)) (part_by allowed_before z s t) (part_of z s t)) × (m.place < section_end z s t))
    unfolding part_by bytes_of
    part-before z b =
        let a = section_start z s t in
        let e = section_end z s t in
        let w = lies z b in
        let inside : e ≤ length s = omega (arith, w.inside) in
        let ends : a + length (slice a e s) ≡ e = omega (arith, w.ordered, length-slice a e s inside) in
        rw ends at (check-before s z a (slice a e s) (drop e s) (sym (slice-join s a e w.ordered inside)))

    -- a section, where what follows is the same or moved, and lies behind it
    section-then : (z : Section) → Starts First z → (k k' : ℕ → Reading) → ((n : ℕ) → SameOrMoved s t (k n) (k' n)) → ((p n : ℕ) → p < section_end z s t → BehindText p (k' n))
        → SameOrMoved s t (then_section (part_by allowed_before z s t) k) (then_section (part_of z s t) k')
    section-then z b k k' same behind = ⊎_elim (λ e. rw e (then_same (part_of z s t) k k' same)) (λ m. inr (moved m)) (part-before z b)
      where
        moved : (m : Moved s z (field_table (bytes_of z s t)) (part_by allowed_before z s t) (part_of z s t)) × (m.place < section_end z s t)
            → MovedText s t (then_section (part_by allowed_before z s t) k) (then_section (part_of z s t) k')
        moved m = record {
          place = m.0.place;
          was = rw m.0.was;
          section = z;
          row = m.0.row;
          column = m.0.column;
          freed = m.0.freed;
          now = then-behind m.0.place (part_of z s t) k' m.0.now (λ n. behind m.0.place n m.1);
        }

    -- ---- the sections in their order, from the last to the first

    behind-l : (p nb nr ng nl : ℕ) → p < section_start Section.Y s t → BehindText p (after_l allowed First s t nb nr ng nl)
    behind-l p nb nr ng nl h = then-behind p (part_of Section.Y s t) _ (part-behind Section.Y p h) (λ n. tt)

    behind_g_lem : (p nb nr ng : ℕ) → p < section_start Section.L s t → BehindText p (after_g allowed First s t nb nr ng)
    behind_g_lem p nb nr ng h =
        then-behind p (part_of Section.L s t) _ (part-behind Section.L p h) (λ n. behind-l p nb nr ng n (omega (arith, h, (lies Section.L (starts-behind-g First)).ordered)))

    behind-r : (p nb nr : ℕ) → p < section_start Section.G s t → BehindText p (after_r allowed First s t nb nr)
    behind-r p nb nr h = then-behind p (part_of Section.G s t) _ (part-behind Section.G p h) (λ n. behind_g_lem p nb nr n (omega (arith, h, (lies Section.G (starts-g First)).ordered)))

    behind-b : (p nb : ℕ) → p < section_start Section.R s t → BehindText p (after_b allowed First s t nb)
    behind-b p nb h = then-behind p (part_of Section.R s t) _ (part-behind Section.R p h) (λ n. behind-r p nb n (omega (arith, h, (lies Section.R (starts-r First)).ordered)))

    body-before : SameOrMoved s t (body_by allowed_before First s t) (body_of First s t)
    unfolding body_by
    body-before =
        section-then Section.B (starts-b First) _ _ (λ nb.
        section-then Section.R (starts-r First) _ _ (λ nr.
        section-then Section.G (starts-g First) _ _ (λ ng.
        section-then Section.L (starts-behind-g First) _ _ (λ nl.
        section-then Section.Y (starts-last First) _ _ (λ ny. inl refl) (λ p n h. tt))
        (λ p n h. behind-l p nb nr ng n h))
        (λ p n h. behind_g_lem p nb nr n h))
        (λ p n h. behind-r p nb n h))
        (λ p n h. behind-b p n h)

-- ---- the text

module _ (s : List ℕ) where
  known-before : trailer_of First s (trailer_start First s) ≡ true → SameOrMoved s (trailer_start First s) (after_trailer allowed_before First s (trailer_start First s)) (after_trailer allowed First s (trailer_start First s))
  known-before w =
      ⊎_elim (λ q. inl (rw q)) (λ q. rw q (body-before s (trailer_start First s) w (omega arith))) (decided (ltb (known_of First (slice 0 (trailer_start First s) s)) (trailer_start First s)))

  length_before : SameOrMoved s (trailer_start First s) (after_length allowed_before First s (trailer_start First s)) (after_length allowed First s (trailer_start First s))
  length_before = ⊎_elim (λ q. rw q (known-before q)) (λ q. inl (rw q)) (decided (trailer_of First s (trailer_start First s)))

  -- a text is read as it was, or it is moved
  pub text-before : SameOrMoved s (trailer_start First s) (text_by allowed_before First s) (checked_text First s)
  unfolding text_by
  text-before =
      ⊎_elim (λ q. inl (rw q)) (λ q. rw q (⊎_elim (λ r. inl (rw r)) (λ r. rw r length_before) (decided (ltb 32768 (length s))))) (decided (ltb (length s) (trailer_length First)))

  -- one that was accepted is, by the same edition's rules
  first-kept : (c : Contents) → text_by allowed_before First s ≡ Ok c → checked_text First s ≡ Ok c
  first-kept c h = ⊎_elim (λ e. sym e ∙ h) (λ m. let f : ◌≡◌ {A = Reading} (Ok c) (Err (Refusal.Field m.place)) = sym h ∙ m.was in no-case cc) text-before

  -- and so by its own
  pub text-kept : (c : Contents) → text_by allowed_before First s ≡ Ok c → text_of s ≡ Ok c
  text-kept c h = rw (accepted-first allowed_before s c h) (first-kept c h)

  -- ---- the columns

  sound-before : (z : Section) (n : ℕ) → part_by allowed_before z s (trailer_start First s) ≡ Ok n → RowsSound allowed_before z (bytes_of z s (trailer_start First s))
  unfolding part_by
  sound-before z n h = section-sound allowed_before z (section_start z s (trailer_start First s)) (bytes_of z s (trailer_start First s)) n h

  module _ (c : Contents) (h : text_by allowed_before First s ≡ Ok c) (old : Network) where
    tables-kept : filled_of s (trailer_start First s) old ≡ tables_by allowed_before s (trailer_start First s) old
    unfolding tables_by
    tables-kept =
        let b = (has-by allowed_before First s c h).body in
        λ i.
        network_of (buses-kept _ (sound-before Section.B _ b.buses) old.buses i) (slacks-kept _ (sound-before Section.R _ b.slacks) old.slacks i)
        (generators-kept _ (sound-before Section.G _ b.generators) old.generators i) (filled_branches (bytes_of Section.L s (trailer_start First s)) old.branches)
        (triplets-kept _ (sound-before Section.Y _ b.triplets) old.triplets i)

    -- a text that was accepted gives the answer and the columns that it gave
    pub read_kept : read_first s old ≡ read_first_by allowed_before s old
    unfolding read_first_by
    read_kept =
        let v = with_room (Ok c) (room_of old) in
        rw (h, first-kept c h) (λ i. read_result (paper_of v) (on_given (paper_of v) (λ d. tables-kept i) old))

-- The rows of an accepted text's tables are its lines, so the row that is told is the line that a reader counts. Assumes nothing.
use Rattle.std.specs.Prelude.{ℕ, zero, suc, ◌<◌, ◌≡◌, refl, List, [], Some}
use Rattle.std.proofs.Math.Path.{ap}
use Rattle.std.proofs.Common.{◌∙◌, ⊎_elim, arith}
use Rattle.std.proofs.Math.ListN.{length, length-map}
use Rattle.network.specs.Network.{Network, bus_count, AtMost, room_of, first_rows}
use Rattle.network.specs.Network.Laws.{room-buses, room-slacks, room-generators, room-branches, room-triplets}
use Rattle.network.specs.BranchTable.{BranchNetwork, branch_room_of, with_triplets, no_triplets, first_branch_rows}
use Rattle.network.specs.BranchTable.Laws.{room-branch-table}
use Rattle.network.specs.Missing.{missing_at, missing_in, LowestRow, LowestEnd, Means}
use Rattle.network.specs.Missing.Laws.{missing-means}
use Rattle.network.specs.declared.Naming.{Naming}
use Rattle.rows.specs.Rows.{rows_of}
use Rattle.rows.specs.declared.Section.{Section}
use Rattle.columns.specs.Columns.{number_field, column_of}
use Rattle.columns.specs.Columns.Laws.{rows-are-lines, number-of-line}
use Rattle.trailer.specs.Trailer.{behind_g, bytes_of}
use Rattle.trailer.specs.declared.Edition.{Edition}
use Rattle.trailer.specs.declared.Edition.TheVariants.{First, Second}
use Rattle.case_text.specs.Text.Laws.{Accepted}
use Rattle.case_text.specs.Answer.{tables_by, branch_tables_by, filled_of, branch_filled_of}
use Rattle.case_text.specs.Answer.Laws.{part-rows}
use Rattle.case_text.specs.Named.{naming_section, bus_fields, text_buses, bus_number, LowestLine}
use Rattle.case_text.specs.declared.Contents.{Contents}

-- the bus numbers of the triplets; the second edition has none
abbrev TripletColumn : Edition → List ℕ → List ℕ → Type 0
TripletColumn First l numbers = l ≡ numbers
TripletColumn Second l numbers = l ≡ []

module _ (e : Edition) (s : List ℕ) (t : ℕ) where
  -- the bus numbers of a table are those of its section's lines
  pub record LinesOf (n : Network) : Type 0 where
    pub buses : bus_count n ≡ text_buses e s t
    pub slacks : n.slacks.bus ≡ column_of (number_field 0) (bytes_of Section.R s t)
    pub generators : n.generators.bus ≡ column_of (number_field 0) (bytes_of Section.G s t)
    pub from : n.branches.from ≡ column_of (number_field 0) (bytes_of (behind_g e) s t)
    pub to : n.branches.to ≡ column_of (number_field 1) (bytes_of (behind_g e) s t)
    pub row : TripletColumn e n.triplets.row (column_of (number_field 0) (bytes_of Section.Y s t))
    pub col : TripletColumn e n.triplets.col (column_of (number_field 1) (bytes_of Section.Y s t))

module _ (s : List ℕ) (t : ℕ) (c : Contents) where
  -- the tables of an accepted first-edition text
  module _ (a : Accepted First s t c) (old : Network) (fits : AtMost c.rows (room_of old)) where
    pub lines_of : LinesOf First s t (first_rows c.rows (filled_of s t old))
    unfolding tables_by
    lines_of =
        let b = a.body in
        let k = room-buses _ old.buses fits.buses in
        let r = room-slacks _ old.slacks fits.slacks in
        let g = room-generators _ old.generators fits.generators in
        let l = room-branches _ old.branches fits.branches in
        let y = room-triplets _ old.triplets fits.triplets in
        record {
          buses = ap length (rows-are-lines _ _ old.buses.kind _ (part-rows Section.B s t _ b.buses) k.kind) ∙ length-map (rows_of (bytes_of Section.B s t)) _;
          slacks = rows-are-lines _ _ old.slacks.bus _ (part-rows Section.R s t _ b.slacks) r.bus;
          generators = rows-are-lines _ _ old.generators.bus _ (part-rows Section.G s t _ b.generators) g.bus;
          from = rows-are-lines _ _ old.branches.from _ (part-rows Section.L s t _ b.branches) l.from;
          to = rows-are-lines _ _ old.branches.to _ (part-rows Section.L s t _ b.branches) l.to;
          row = rows-are-lines _ _ old.triplets.row _ (part-rows Section.Y s t _ b.triplets) y.row;
          col = rows-are-lines _ _ old.triplets.col _ (part-rows Section.Y s t _ b.triplets) y.col;
        }

  -- those of a second-edition text, without triplets
  module _ (a : Accepted Second s t c) (old : BranchNetwork) (fits : AtMost c.rows (branch_room_of old)) where
    pub branch-lines-of : LinesOf Second s t (with_triplets (first_branch_rows c.rows (branch_filled_of s t old)) no_triplets)
    unfolding branch_tables_by
    branch-lines-of =
        let b = a.body in
        let k = room-buses _ old.buses fits.buses in
        let r = room-slacks _ old.slacks fits.slacks in
        let g = room-generators _ old.generators fits.generators in
        let l = (room-branch-table _ old.table fits.branches).ends in
        record {
          buses = ap length (rows-are-lines _ _ old.buses.kind _ (part-rows Section.B s t _ b.buses) k.kind) ∙ length-map (rows_of (bytes_of Section.B s t)) _;
          slacks = rows-are-lines _ _ old.slacks.bus _ (part-rows Section.R s t _ b.slacks) r.bus;
          generators = rows-are-lines _ _ old.generators.bus _ (part-rows Section.G s t _ b.generators) g.bus;
          from = rows-are-lines _ _ old.table.ends.from _ (part-rows Section.K s t _ b.branches) l.from;
          to = rows-are-lines _ _ old.table.ends.to _ (part-rows Section.K s t _ b.branches) l.to;
          row = refl;
          col = refl;
        }

module _ (e : Edition) (s : List ℕ) (t : ℕ) where
  -- field j of a section's lines
  abbrev numbers : Naming → ℕ → List ℕ
  numbers table j = column_of (number_field j) (bytes_of (naming_section e table) s t)

  -- a line with one bus number
  row_line : (table : Naming) → bus_fields table ≡ 1 → (i j : ℕ) → LowestRow (text_buses e s t) (numbers table 0) i j → LowestLine e s t table i j
  row_line table one i j w =
      record {
        inside = rw length-map at w.inside;
        field = omega (arith, one, w.one_field);
        names = rw w.one_field (rw number-of-line at w.names);
        fields_before = λ k p. absurd (omega (arith, w.one_field));
        lines_before = λ h k p q. let first : k ≡ 0 = omega (arith, one) in rw first (rw number-of-line at (w.lower h p));
      }

  -- and with two
  end_line : (table : Naming) → bus_fields table ≡ 2 → (i j : ℕ) → LowestEnd (text_buses e s t) (numbers table 0) (numbers table 1) i j → LowestLine e s t table i j
  end_line table two i j w =
      record {
        inside = rw length-map at w.inside;
        field = ⊎_elim (λ x. omega (arith, two, x.0)) (λ x. omega (arith, two, x.0)) w.names;
        names = ⊎_elim (λ x. rw x.0 (rw number-of-line at x.1)) (λ x. rw x.0 (rw number-of-line at x.2)) w.names;
        fields_before = λ k p. ⊎_elim (λ x. absurd (omega (arith, x.0))) (λ x. let first : k ≡ 0 = omega (arith, x.0) in rw first (rw number-of-line at x.1)) w.names;
        lines_before = λ h k p q. before h p k (rw two at q);
      }
    where
      before : (h : ℕ) → h < i → (k : ℕ) → k < 2 → bus_number e s t table h k < text_buses e s t
      before h p zero q = rw number-of-line at (w.lower_first h p)
      before h p (suc zero) q = rw number-of-line at (w.lower_second h p)
      before h p (suc (suc k)) q = absurd (omega arith)

  -- columns of a section have one length
  even : (table : Naming) (a b : List ℕ) → a ≡ numbers table 0 → b ≡ numbers table 1 → length b ≡ length a
  even table a b p q = rw (p, q) (simp length-map)

  -- triplets have columns of one length
  even-triplets : (x : Edition) (a b : List ℕ) → TripletColumn x a (numbers Naming.Triplet 0) → TripletColumn x b (numbers Naming.Triplet 1) → length b ≡ length a
  even-triplets First a b p q = even Naming.Triplet a b p q
  even-triplets Second a b p q = rw (p, q)

  -- a triplet's row is a line of Y; where there are none, none is told
  triplet-line : (x : Edition) (a b : List ℕ) → TripletColumn x a (numbers Naming.Triplet 0) → TripletColumn x b (numbers Naming.Triplet 1) → (i j : ℕ)
      → LowestEnd (text_buses e s t) a b i j → LowestLine e s t Naming.Triplet i j
  triplet-line First a b p q i j w = end_line Naming.Triplet refl i j (rw (p, q) at w)
  triplet-line Second a b p q i j w = let none : i < 0 = rw p at w.inside in absurd (omega arith)

  -- the row and the field that are told of tables whose rows are lines
  pub told_line : (n : Network) → LinesOf e s t n → (table : Naming) (i j : ℕ) → missing_in n ≡ Some (missing_at table i j) → LowestLine e s t table i j
  told_line n h table i j q = go table (rw q at (missing-means n (even Naming.Branch _ _ h.from h.to) (even-triplets e _ _ h.row h.col)))
    where
      go : (table : Naming) → Means n (Some (missing_at table i j)) → LowestLine e s t table i j
      go Naming.Slack w = row_line Naming.Slack refl i j (rw (h.buses, h.slacks) at w)
      go Naming.Generator w = row_line Naming.Generator refl i j (rw (h.buses, h.generators) at w.1)
      go Naming.Branch w = end_line Naming.Branch refl i j (rw (h.buses, h.from, h.to) at w.1)
      go Naming.Triplet w = triplet-line e _ _ h.row h.col i j (rw h.buses at w.1)

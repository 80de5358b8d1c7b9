-- Request 4 of 02: the layout of two tables answers every question about a row, a column, a kind or the size as the layout of four did, for all bus
-- kinds; and the residual has the same bits. Assumes nothing.
use Prim.Native.Nat.{ℕ, zero, suc}
use Rattle.std.specs.Prelude.{◌≡◌, List, replicate}
use Rattle.std.proofs.Math.Path.{refl, ap}
use Rattle.std.proofs.Common.{◌∙◌}
use Rattle.layout.specs.declared.BusKind.{BusKind}
use Rattle.layout.specs.declared.BusKind.TheVariants.{Slack, Pv, Pq}
use Rattle.layout.specs.declared.Unknown.TheVariants.{Angle, Magnitude}
use Rattle.layout.specs.declared.AcPfLayout.{AcPfLayout}
use Rattle.layout.specs.Table.{table}
use Rattle.layout.specs.Table.Laws.{stores-ext}
use Rattle.layout.specs.Layout.{none, has, number, after, kind_of, count_to, number_at, first_of, layout_of, va_col, vm_col, p_row, q_row, kind_in}
use Rattle.layout.specs.Residual as Two
use Rattle.layout.specs.Residual.{Powers, residual_to}
use Rattle.layout.specs.FourTables as Four
use Rattle.layout.specs.FourTables.{angle_col, next_angle, magnitude_col, next_magnitude, angle_count, magnitude_count, angle_at, magnitude_at, FourTables, four_tables_of}

-- ---- the same numbers

angle-same : (k : BusKind) (c : ℕ) → (number (has Angle k) c ≡ angle_col k c) × (after (has Angle k) c ≡ next_angle k c)
angle-same Slack c = (refl, refl)
angle-same Pv c = (refl, refl)
angle-same Pq c = (refl, refl)

magnitude-same : (k : BusKind) (c : ℕ) → (number (has Magnitude k) c ≡ magnitude_col k c) × (after (has Magnitude k) c ≡ next_magnitude k c)
magnitude-same Slack c = (refl, refl)
magnitude-same Pv c = (refl, refl)
magnitude-same Pq c = (refl, refl)

module _ (kinds : List BusKind) where
  angles : (k : ℕ) → count_to Angle kinds 0 k ≡ angle_count k kinds
  unfolding count_to angle_count
  angles zero = refl
  angles (suc k) = (angle-same (kind_of kinds k) _).1 ∙ ap (next_angle (kind_of kinds k)) (angles k)

  magnitudes : (first k : ℕ) → count_to Magnitude kinds first k ≡ magnitude_count k kinds first
  unfolding count_to magnitude_count
  magnitudes first zero = refl
  magnitudes first (suc k) = (magnitude-same (kind_of kinds k) _).1 ∙ ap (next_magnitude (kind_of kinds k)) (magnitudes first k)

  angle-table : (n : ℕ) → table n none (number_at Angle kinds 0) ≡ table n none (angle_at kinds)
  angle-table n = stores-ext _ _ n (replicate 32 none) (λ b h. (angle-same (kind_of kinds b) _).0 ∙ ap (angle_col (kind_of kinds b)) (angles b))

  magnitude-table : (n first : ℕ) → table n none (number_at Magnitude kinds first) ≡ table n none (magnitude_at kinds first)
  magnitude-table n first = stores-ext _ _ n (replicate 32 none) (λ b h. (magnitude-same (kind_of kinds b) _).0 ∙ ap (magnitude_col (kind_of kinds b)) (magnitudes first b))

-- ---- the same answers

-- the questions are the methods of `AcPfLayout`; each answer here is what the method's contract says
pub record SameAnswers (l : AcPfLayout) (o : FourTables) : Type 0 where
  pub buses : l.n ≡ o.n
  pub size : l.dim ≡ o.dim
  pub va_col : (b : ℕ) → va_col l b ≡ Four.va_col o b
  pub vm_col : (b : ℕ) → vm_col l b ≡ Four.vm_col o b
  pub p_row : (b : ℕ) → p_row l b ≡ Four.p_row o b
  pub q_row : (b : ℕ) → q_row l b ≡ Four.q_row o b
  pub kind : (b : ℕ) → kind_in l b ≡ Four.kind_in o b

-- of every length, so of those up to 32; at every place, so at those past the buses too
pub same-answers : (n : ℕ) (kinds : List BusKind) → SameAnswers (layout_of n kinds) (four_tables_of n kinds)
unfolding layout_of four_tables_of
same-answers n kinds =
    record {
      buses = refl;
      size = magnitudes kinds _ n ∙ ap (magnitude_count n kinds) (angles kinds n);
      va_col = va;
      vm_col = vm;
      p_row = va;
      q_row = vm;
      kind = λ b. rw (va b, vm b);
    }
  where
    va : (b : ℕ) → va_col (layout_of n kinds) b ≡ Four.va_col (four_tables_of n kinds) b
    va b = rw (angle-table kinds n)

    vm : (b : ℕ) → vm_col (layout_of n kinds) b ≡ Four.vm_col (four_tables_of n kinds) b
    vm b = rw (magnitude-table kinds n (first_of Magnitude n kinds), angles kinds n)

-- ---- the same residual

pub same-residual : (l : AcPfLayout) (o : FourTables) → SameAnswers l o → (w : Powers) → Two.residual_of l w ≡ Four.residual_of o w
same-residual l o same w = λ i. residual_to (same.buses i) (λ b. same.p_row b i) (λ b. same.q_row b i) w

-- Demand 3 at this level: a residual does not read a figure of a bus that has no row for it. Assumes nothing.
use Rattle.std.specs.Prelude.{ℕ, zero, suc, ◌≤◌, ◌<◌, ◌≡◌, refl, List, ◌⊎◌, get_or}
use Rattle.std.proofs.Common.{inl, inr, arith}
use Rattle.std.specs.Float.{nan}
use Rattle.layout.specs.declared.BusKind.{BusKind}
use Rattle.layout.specs.declared.Unknown.TheVariants.{Angle, Magnitude}
use Rattle.layout.specs.Layout.{none, kind_of, layout_of, p_row, q_row}
use Rattle.layout.specs.Layout.Laws.{column-none}
use Rattle.layout.specs.Residual.{Powers, missing_p, missing_q, at_row, residual_to, residual_of}
use Rattle.layout.specs.Residual.Laws.{lost, NoActive, NoReactive, AlikeFor}

pub unread : (k : ℕ) (p q : ℕ → ℕ) (w v : Powers)
    → ((b : ℕ) → b < k → (p b ≡ none) ⊎ (missing_p w b ≡ missing_p v b))
    → ((b : ℕ) → b < k → (q b ≡ none) ⊎ (missing_q w b ≡ missing_q v b))
    → residual_to k p q w ≡ residual_to k p q v
unfolding residual_to
unread zero p q w v hp hq = refl
unread (suc k) p q w v hp hq =
    rw (
      unread k p q w v (λ b h. hp b (omega arith)) (λ b h. hq b (omega arith)),
      lost (residual_to k p q v) (p k) _ _ (hp k (omega arith)),
    )
    (lost (at_row (residual_to k p q v) (p k) (missing_p v k)) (q k) _ _ (hq k (omega arith)))

-- the residual does not change when pd, qd, pg, qg change at slack buses, nor qg or qd where the reactive row is missing
pub residual-unread : (n : ℕ) (kinds : List BusKind) (w v : Powers) → n ≤ 32 → AlikeFor n kinds w v
    → residual_of (layout_of n kinds) w ≡ residual_of (layout_of n kinds) v
unfolding layout_of
residual-unread n kinds w v few a = unread n (p_row (layout_of n kinds)) (q_row (layout_of n kinds)) w v p_rows q_rows
  where
    p_rows : (b : ℕ) → b < n → (p_row (layout_of n kinds) b ≡ none) ⊎ (missing_p w b ≡ missing_p v b)
    p_rows b h = go (a.active b h)
      where
        go : NoActive (kind_of kinds b) ⊎ ((get_or w.pg b nan ≡ get_or v.pg b nan) × (get_or w.pd b nan ≡ get_or v.pd b nan))
            → (p_row (layout_of n kinds) b ≡ none) ⊎ (missing_p w b ≡ missing_p v b)
        go (inl e) = inl (column-none Angle n kinds b h few (rw e))
        go (inr e) = inr (rw (e.0, e.1, a.calc_p))

    q_rows : (b : ℕ) → b < n → (q_row (layout_of n kinds) b ≡ none) ⊎ (missing_q w b ≡ missing_q v b)
    q_rows b h = go (a.reactive b h)
      where
        go : NoReactive (kind_of kinds b) ⊎ ((get_or w.qg b nan ≡ get_or v.qg b nan) × (get_or w.qd b nan ≡ get_or v.qd b nan))
            → (q_row (layout_of n kinds) b ≡ none) ⊎ (missing_q w b ≡ missing_q v b)
        go (inl (inl e)) = inl (column-none Magnitude n kinds b h few (rw e))
        go (inl (inr e)) = inl (column-none Magnitude n kinds b h few (rw e))
        go (inr e) = inr (rw (e.0, e.1, a.calc_q))

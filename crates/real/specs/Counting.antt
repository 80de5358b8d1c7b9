-- Counting: g is one more after each place that counts. So it rises by at most one, and meets each number in between at one place that counts.
-- Assumes nothing.
use Rattle.std.specs.Prelude.{ℕ, zero, suc, ◌+◌, ◌≤◌, ◌<◌, ◌≡◌, refl, Bool, true, false, cond, ltb}
use Rattle.std.proofs.Common.{◌∙◌, ⊎_elim, le_of_suc-le-suc, eq-or-lt_of_le, le_refl, arith, ltb-true, ltb-false}

module _ (g : ℕ → ℕ) (has : ℕ → Bool) (turn : (k : ℕ) → g (suc k) ≡ cond (has k) (suc (g k)) (g k)) where
  pub step : (k : ℕ) → (g k ≤ g (suc k)) × (g (suc k) ≤ suc (g k))
  step k = rw (turn k) (go (has k))
    where
      go : (t : Bool) → (g k ≤ cond t (suc (g k)) (g k)) × (cond t (suc (g k)) (g k) ≤ suc (g k))
      go true = omega arith
      go false = omega arith

  pub counted : (k : ℕ) → has k ≡ true → g (suc k) ≡ suc (g k)
  counted k h = turn k ∙ rw h

  pub rising : (i j : ℕ) → i ≤ j → g i ≤ g j
  rising i zero p = let e : i ≡ 0 = omega arith in rw e (le_refl (g 0))
  rising i (suc j) p =
      ⊎_elim (λ e. rw e (le_refl (g (suc j)))) (λ l. let a = rising i j (le_of_suc-le-suc l) in let s = (step j).0 in omega arith) (eq-or-lt_of_le p)

  pub strictly : (i j : ℕ) → has i ≡ true → i < j → g i < g j
  strictly i j h p = let a = rising (suc i) j p in let s = counted i h in omega arith

  pub once : (i j : ℕ) → has i ≡ true → has j ≡ true → g i ≡ g j → i ≡ j
  once i j hi hj e = go (ltb i j) refl (ltb j i) refl
    where
      go : (s : Bool) → ltb i j ≡ s → (t : Bool) → ltb j i ≡ t → i ≡ j
      go true p t q = let l = strictly i j hi (ltb-true i j p) in absurd (omega arith)
      go false p true q = let l = strictly j i hj (ltb-true j i q) in absurd (omega arith)
      go false p false q = let a = ltb-false i j p in let b = ltb-false j i q in omega arith

  pub growth : (k : ℕ) → g k ≤ g 0 + k
  growth zero = omega arith
  growth (suc k) = let a = growth k in let s = (step k).1 in omega arith

  pub met : (n c : ℕ) → g 0 ≤ c → c < g n → (b : ℕ) × (b < n) × (has b ≡ true) × (g b ≡ c)
  met zero c l h = absurd (omega arith)
  met (suc n) c l h = go (ltb c (g n)) refl (met n c l)
    where
      last : (t : Bool) → has n ≡ t → g n ≤ c → (b : ℕ) × (b < suc n) × (has b ≡ true) × (g b ≡ c)
      last true e a = let s = counted n e in (n, omega arith, e, omega arith)
      last false e a = let s : g (suc n) ≡ g n = turn n ∙ rw e in absurd (omega arith)

      go : (t : Bool) → ltb c (g n) ≡ t → (c < g n → (b : ℕ) × (b < n) × (has b ≡ true) × (g b ≡ c)) → (b : ℕ) × (b < suc n) × (has b ≡ true) × (g b ≡ c)
      go true e before = let w = before (ltb-true c (g n) e) in (w.0, omega (arith, w.1), w.2, w.3)
      go false e before = last (has n) refl (ltb-false c (g n) e)

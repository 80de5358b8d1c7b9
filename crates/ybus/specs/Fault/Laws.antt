-- What the fault that is told means, and that nothing is told exactly where no row is at fault. Assumes nothing.
use Rattle.std.specs.Prelude.{ℕ, ◌<◌, ◌≡◌, Bool, List, length, get_or, Float, Option, Some, None}
use Rattle.std.proofs.Math.Path.{refl}
use Rattle.std.proofs.Math.Bool.{true, false, cond}
use borrow.Author.Tests.{eqb-true, eqb-false, ne_eqb, not-false, not-true}
use Rattle.std.specs.Float.{nan}
use Rattle.std.specs.Float.Ieee.{lt}
use Rattle.real.specs.Literals.{nought}
use Rattle.real.specs.Tests.{true-false, no-case, nor-left, nor-right}
use Rattle.real.specs.First.{first_below}
use Rattle.real.specs.First.Laws.{Lowest, at-lowest, nowhere-clear, clear-nowhere}
use Rattle.network.specs.Network.{Branches}
use Rattle.ybus.specs.Branch.{from_of, to_of}
use Rattle.ybus.specs.declared.Fault.TheVariants.{Tap, Ends}
use Rattle.ybus.specs.Fault.{tap_fails, row_fails, fault_at, fault_of}

-- the tap of row e is above zero, and its ends are one bus
abbrev pub Above : List Float → ℕ → Type 0
Above tap e = lt nought (get_or tap e nan) ≡ true

abbrev pub Meet : Branches → ℕ → Type 0
Meet ends e = from_of ends e ≡ to_of ends e

-- row e has no fault
pub record Sound (ends : Branches) (tap : List Float) (e : ℕ) : Type 0 where
  pub above : Above tap e
  pub apart : Meet ends e → ⊥

module _ (ends : Branches) (tap : List Float) where
  -- row e is at fault, and no row before it
  pub record FirstFault (e : ℕ) : Type 0 where
    pub inside : e < length ends.from
    pub before : (j : ℕ) → j < e → Sound ends tap j

  sound : (e : ℕ) → row_fails ends tap e ≡ false → Sound ends tap e
  sound e h =
      record { above = not-false _ (nor-left (tap_fails ends tap e) _ h); apart = eqb-false _ _ (nor-right (tap_fails ends tap e) _ h) }

  first-fault : (e : ℕ) → Lowest (length ends.from) (row_fails ends tap) e → FirstFault e
  first-fault e h = record { inside = h.inside; before = λ j p. sound j (h.lower j p) }

  -- 14: the tap of that row is not above zero
  pub tap-told : (e : ℕ) → fault_of ends tap ≡ Some (Tap e) → FirstFault e × (Above tap e → ⊥)
  unfolding fault_at
  tap-told e h = go (first_below (length ends.from) (row_fails ends tap)) refl h
    where
      pick : (i : ℕ) (b : Bool) → tap_fails ends tap i ≡ b → FirstFault i → Some (cond b (Tap i) (Ends i)) ≡ Some (Tap e) → FirstFault e × (Above tap e → ⊥)
      pick i true p l q = let same : i ≡ e = cc in (rw same at l, λ a. true-false a (rw (← same) (not-true _ p)))
      pick i false p l q = no-case (cc)

      go : (o : Option ℕ) → first_below (length ends.from) (row_fails ends tap) ≡ o → fault_at ends tap o ≡ Some (Tap e) → FirstFault e × (Above tap e → ⊥)
      go (Some i) p q = pick i (tap_fails ends tap i) refl (first-fault i (at-lowest (row_fails ends tap) _ i p)) q
      go None p q = no-case (cc)

  -- 15: that row's tap is above zero, and its ends are one bus
  pub ends-told : (e : ℕ) → fault_of ends tap ≡ Some (Ends e) → FirstFault e × Above tap e × Meet ends e
  unfolding fault_at
  ends-told e h = go (first_below (length ends.from) (row_fails ends tap)) refl h
    where
      pick : (i : ℕ) (b : Bool) → tap_fails ends tap i ≡ b → Lowest (length ends.from) (row_fails ends tap) i → Some (cond b (Tap i) (Ends i)) ≡ Some (Ends e)
          → FirstFault e × Above tap e × Meet ends e
      pick i true p l q = no-case (cc)
      pick i false p l q =
          let same : i ≡ e = cc in
          (rw same at (first-fault i l), rw (← same) (not-false _ p), rw (← same) (eqb-true _ _ (rw p at l.passes)))

      go : (o : Option ℕ) → first_below (length ends.from) (row_fails ends tap) ≡ o → fault_at ends tap o ≡ Some (Ends e) → FirstFault e × Above tap e × Meet ends e
      go (Some i) p q = pick i (tap_fails ends tap i) refl (at-lowest (row_fails ends tap) _ i p) q
      go None p q = no-case (cc)

  -- nothing: every row is sound
  pub nothing-told : fault_of ends tap ≡ None → (e : ℕ) → e < length ends.from → Sound ends tap e
  unfolding fault_at
  nothing-told h = go (first_below (length ends.from) (row_fails ends tap)) refl h
    where
      pick : {P : Type 0} (i : ℕ) (b : Bool) → Some (cond b (Tap i) (Ends i)) ≡ None → P
      pick i true q = no-case (cc)
      pick i false q = no-case (cc)

      go : (o : Option ℕ) → first_below (length ends.from) (row_fails ends tap) ≡ o → fault_at ends tap o ≡ None → (e : ℕ) → e < length ends.from → Sound ends tap e
      go (Some i) p q e l = pick i (tap_fails ends tap i) q
      go None p q e l = sound e (nowhere-clear (row_fails ends tap) _ p e l)

  -- and nothing is told where every row is
  pub sound-nothing : ((e : ℕ) → e < length ends.from → Sound ends tap e) → fault_of ends tap ≡ None
  unfolding fault_at
  sound-nothing h = rw (clear-nowhere (row_fails ends tap) (length ends.from) (λ e l. rw ((h e l).above, ne_eqb _ _ (h e l).apart)))

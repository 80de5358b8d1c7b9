-- Without a generator no bus moves. Demand 3 at one bus: two studies that differ only in figures withheld there move it alike, and go on differing only there.
-- Assumes nothing.
use Rattle.std.specs.Prelude.{Bool, false, cond, take, ◌⊎◌, Option, None, ◌≡◌, get_or, replicate, Float}
use Rattle.std.proofs.Math.Bool.{true}
use Rattle.std.proofs.Common.{inl, inr, sym, ◌∙◌, ℕ, zero, suc, ◌<◌, [], ◌∷◌, List, not-suc-le-zero, le_of_suc-le-suc}
use Rattle.std.proofs.Math.Path.{refl}
use Rattle.std.specs.Float.Ieee.{binary64, add, sub, lt}
use Rattle.real.specs.Tests.{no-case, nor-left, nor-right}
use Rattle.std.specs.List.{list_any}
use Rattle.real.specs.Literals.{margin}
use Rattle.layout.specs.declared.BusKind.{BusKind}
use Rattle.layout.specs.declared.BusKind.TheVariants.{Slack, Pv, Pq}
use Rattle.layout.specs.declared.Limits.{Limits}
use Rattle.layout.specs.Table.Laws.{stores-ext, table_same}
use Rattle.layout.specs.Residual.Laws.{NoActive, NoReactive}
use Rattle.moves.specs.declared.Limit.{Limit}
use Rattle.moves.specs.declared.Move.{Move}
use Rattle.moves.specs.declared.Move.TheVariants.{Keep, AtMax, AtMin, Revert}
use Rattle.moves.specs.declared.Track.{Track}
use Rattle.moves.specs.Moves.{could_hold, move_pv, move_pq, move_of, move_at, moves_of, any_generator, kind_after, sched_after, converted_after}

-- ---- without a generator

none_taken : (n : ℕ) (l : List Bool) → list_any (λ h. h) (take n l) ≡ false → (b : ℕ) → b < n → get_or l b false ≡ false
none_taken zero l e b p = absurd (not-suc-le-zero p)
none_taken (suc n) [] e b p = refl
none_taken (suc n) (h ∷ t) e zero p = nor-left h _ e
none_taken (suc n) (h ∷ t) e (suc b) p = none_taken n t (nor-right h _ e) b (le_of_suc-le-suc p)

pub no_move : (n : ℕ) (kinds : List BusKind) (l : Limits) (t : Track) (qd q vm hold : List Float) → any_generator n l.has_gen ≡ false
    → replicate 32 Keep ≡ moves_of n kinds l t qd q vm hold
unfolding moves_of move_of
no_move n kinds l t qd q vm hold e =
    sym (stores-ext (move_at kinds l t qd q vm hold) (λ b. Keep) n (replicate 32 Keep) (λ i p. rw (none_taken n l.has_gen e i p)) ∙ table_same n Keep)

-- ---- how a bus stands

-- the kinds whose limits are not read: a slack never moves, and a bus that begins as Q is not converted, so it is not reverted
abbrev pub NoLimits : BusKind → Type 0
NoLimits k = (k ≡ Slack) ⊎ (k ≡ Pq)

-- how a bus of kind d at the start stands in some round, of kind k by then: `converted` is c, and x and y are its schedules in the two studies
pub data Standing : BusKind → BusKind → Option Limit → Float → Float → Type 0 where
  slack : {c : Option Limit} {x y : Float} → Standing Slack Slack c x y
  held : {c : Option Limit} {x y : Float} → Standing Pv Pv c x y
  converted : {c : Option Limit} {x y : Float} → x ≡ y → Standing Pv Pq c x y
  loaded : {x y : Float} → x ≡ y → Standing Pq Pq None x y

-- ---- what is withheld at another kind is not withheld here

pub active-v : {A : Type 0} → NoActive Pv ⊎ A → A
active-v (inl e) = no-case cc
active-v (inr a) = a

pub active-q : {A : Type 0} → NoActive Pq ⊎ A → A
active-q (inl e) = no-case cc
active-q (inr a) = a

pub reactive-q : {A : Type 0} → NoReactive Pq ⊎ A → A
reactive-q (inl (inl e)) = no-case cc
reactive-q (inl (inr e)) = no-case cc
reactive-q (inr a) = a

pub limits-v : {A : Type 0} → NoLimits Pv ⊎ A → A
limits-v (inl (inl e)) = no-case cc
limits-v (inl (inr e)) = no-case cc
limits-v (inr a) = a

-- ---- the moves that there are

-- what holds of each of them holds of the move
module _ (P : Move → Type 0) where
  none : (has r : Bool) → P Keep → P (cond has (cond r Keep Keep) Keep)
  none false r z = z
  none true true z = z
  none true false z = z

  three : (has a b : Bool) → P AtMax → P AtMin → P Keep → P (cond has (cond a AtMax (cond b AtMin Keep)) Keep)
  three false a b x y z = z
  three true true b x y z = x
  three true false true x y z = y
  three true false false x y z = z

  two : (has r a : Bool) → P Revert → P Keep → P (cond has (cond r Keep (cond a Revert Keep)) Keep)
  two false r a x z = z
  two true true a x z = z
  two true false true x z = x
  two true false false x z = z

-- how a bus stands after a move, between the limits and with the first schedules of the two studies
abbrev pub After : (lo lo' hi hi' qg qg' : Float) → BusKind → BusKind → Option Limit → Float → Float → Move → Type 0
After lo lo' hi hi' qg qg' d k c x y m = Standing d (kind_after m k) (converted_after m c) (sched_after m x lo hi qg) (sched_after m y lo' hi' qg')

module _ (has r : Bool) (q lo lo' hi hi' v hold : Float) where
  pub move-alike : (q' : Float) {d k : BusKind} {c : Option Limit} {x y : Float} → Standing d k c x y → NoActive d ⊎ (q ≡ q') → NoLimits d ⊎ ((lo ≡ lo') × (hi ≡ hi'))
      → move_of k has q lo hi c r v hold ≡ move_of k has q' lo' hi' c r v hold
  unfolding move_of move_pq
  move-alike q' slack eq el = refl
  move-alike q' held eq el = rw (active-v eq, (limits-v el).0, (limits-v el).1)
  move-alike q' (converted e) eq el = refl
  move-alike q' (loaded e) eq el = refl

  module _ (qg qg' : Float) where
    abbrev Next : BusKind → BusKind → Option Limit → Float → Float → Move → Type 0
    Next = After lo lo' hi hi' qg qg'

    pub standing_on : {d k : BusKind} {c : Option Limit} {x y : Float} → Standing d k c x y → NoLimits d ⊎ ((lo ≡ lo') × (hi ≡ hi'))
        → Next d k c x y (move_of k has q lo hi c r v hold)
    unfolding move_of move_pv move_pq
    standing_on {x = x} {y = y} (slack {c = c}) el = none (Next Slack Slack c x y) has true slack
    standing_on {c = c} {x = x} {y = y} held el =
        three (Next Pv Pv c x y) has (lt (add binary64 hi margin) q) (lt q (sub binary64 lo margin)) (converted (limits-v el).1) (converted (limits-v el).0) held
    standing_on {c = c} {x = x} {y = y} (converted e) el =
        two (Next Pv Pq c x y) has r (could_hold c v hold) held (converted e)
    standing_on {x = x} {y = y} (loaded e) el = none (Next Pq Pq None x y) has r (loaded e)

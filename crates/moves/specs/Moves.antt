-- 01, "Limits": what becomes of one bus in a round, and of all of them. Every bus is tested against the figures that Newton's end gives.
pub mod Laws
use Rattle.std.specs.Prelude.{ℕ, Bool, true, false, cond, List, take, get_or, Option, None, Some, Float}
use Rattle.std.specs.Float.{nan, binary64}
use Rattle.std.specs.Float.Ieee.{add, sub, lt}
use Rattle.std.specs.List.{list_any}
use Rattle.real.specs.Literals.{nought, margin}
use Rattle.layout.specs.declared.BusKind.{BusKind}
use Rattle.layout.specs.declared.BusKind.TheVariants.{Slack, Pv, Pq}
use Rattle.layout.specs.declared.Limits.{Limits}
use Rattle.layout.specs.Kinds.{kind_letter}
use Rattle.layout.specs.Layout.{kind_of}
use Rattle.layout.specs.Table.{stores, table}
use Rattle.layout.specs.declared.Point.{Point}
use Rattle.moves.specs.declared.Move.{Move}
use Rattle.moves.specs.declared.Move.TheVariants.{Keep, AtMax, AtMin, Revert}
use Rattle.moves.specs.declared.Limit.{Limit}
use Rattle.moves.specs.declared.Limit.TheVariants.{Max, Min}
use Rattle.moves.specs.declared.Tracked.{Tracked}
use Rattle.moves.specs.declared.Track.{Track}

-- ---- one bus

-- "A V bus with a generator turns Q above qmax + 1e-6 or below qmin - 1e-6, strictly"
unfoldable pub move_pv : Float → Float → Float → Move
move_pv q lo hi = cond (lt (add binary64 hi margin) q) AtMax (cond (lt q (sub binary64 lo margin)) AtMin Keep)

-- "A converted bus returns once at most, when its voltage is strictly over 1e-6 past the held value, above for qmax, below for qmin":
-- `converted` is the limit at which the bus is fixed, None where it is not converted
abbrev pub could_hold : Option Limit → Float → Float → Bool
could_hold None v hold = false
could_hold (Some Max) v hold = lt (add binary64 hold margin) v
could_hold (Some Min) v hold = lt v (sub binary64 hold margin)

unfoldable pub move_pq : Option Limit → Bool → Float → Float → Move
move_pq converted reverted v hold = cond reverted Keep (cond (could_hold converted v hold) Revert Keep)

abbrev pub by_kind : BusKind → Move → Move → Move
by_kind Slack a b = Keep
by_kind Pv a b = a
by_kind Pq a b = b

-- only a bus with a generator moves, and no slack
unfoldable pub move_of : BusKind → Bool → Float → Float → Float → Option Limit → Bool → Float → Float → Move
move_of k has q lo hi converted reverted v hold = cond has (by_kind k (move_pv q lo hi) (move_pq converted reverted v hold)) Keep

abbrev pub is_move : Move → Bool
is_move Keep = false
is_move AtMax = true
is_move AtMin = true
is_move Revert = true

abbrev pub kind_after : Move → BusKind → BusKind
kind_after Keep k = k
kind_after AtMax k = Pq
kind_after AtMin k = Pq
kind_after Revert k = Pv

-- a converted bus is scheduled at the limit that it broke, a reverted one at what it was
abbrev pub sched_after : Move → Float → Float → Float → Float → Float
sched_after Keep s lo hi qg = s
sched_after AtMax s lo hi qg = hi
sched_after AtMin s lo hi qg = lo
sched_after Revert s lo hi qg = qg

abbrev pub converted_after : Move → Option Limit → Option Limit
converted_after Keep c = c
converted_after AtMax c = Some Max
converted_after AtMin c = Some Min
converted_after Revert c = None

abbrev pub reverted_after : Move → Bool → Bool
reverted_after Keep r = r
reverted_after AtMax r = r
reverted_after AtMin r = r
reverted_after Revert r = true

-- all that changes of a bus beside its kind
abbrev pub tracked_after : Move → Tracked → Float → Float → Float → Tracked
tracked_after m t lo hi qg =
    record { qsched = sched_after m t.qsched lo hi qg; converted = converted_after m t.converted; reverted = reverted_after m t.reverted }

-- the magnitude of a slack or V bus is the held value
abbrev pub pin_of : BusKind → Float → Float → Float
pin_of Slack v hold = hold
pin_of Pv v hold = hold
pin_of Pq v hold = v

-- ---- all buses

-- the move of bus b: its reactive generation is what the voltages give and its demand
abbrev pub move_at : List BusKind → Limits → Track → List Float → List Float → List Float → List Float → ℕ → Move
move_at kinds l t qd q vm hold b =
    move_of (kind_of kinds b) (get_or l.has_gen b false) (add binary64 (get_or q b nan) (get_or qd b nan)) (get_or l.qmin b nan) (get_or l.qmax b nan)
    (get_or t.converted b None) (get_or t.reverted b false) (get_or vm b nan) (get_or hold b nan)

unfoldable pub moves_of : ℕ → List BusKind → Limits → Track → List Float → List Float → List Float → List Float → List Move
moves_of n kinds l t qd q vm hold = table n Keep (move_at kinds l t qd q vm hold)

-- whether any of the n buses has a generator, and whether any moves
abbrev pub any_generator : ℕ → List Bool → Bool
any_generator n has = list_any (λ h. h) (take n has)

abbrev pub any_move : ℕ → List Move → Bool
any_move n ms = list_any is_move (take n ms)

unfoldable pub kinds_after : ℕ → List BusKind → List Move → List BusKind
kinds_after n kinds ms = stores (λ b. kind_after (get_or ms b Keep) (kind_of kinds b)) n kinds

-- the first k buses
abbrev pub track_to : ℕ → Track → Limits → List Float → List Move → Track
track_to k t l qg ms =
    record {
      qsched = stores (λ b. sched_after (get_or ms b Keep) (get_or t.qsched b nan) (get_or l.qmin b nan) (get_or l.qmax b nan) (get_or qg b nan)) k t.qsched;
      converted = stores (λ b. converted_after (get_or ms b Keep) (get_or t.converted b None)) k t.converted;
      reverted = stores (λ b. reverted_after (get_or ms b Keep) (get_or t.reverted b false)) k t.reverted;
    }

unfoldable pub track_after : ℕ → Track → Limits → List Float → List Move → Track
track_after n t l qg ms = track_to n t l qg ms

abbrev pub pin_to : ℕ → List BusKind → List Float → Point → Point
pin_to k kinds hold p = record { vm = stores (λ b. pin_of (kind_of kinds b) (get_or p.vm b nan) (get_or hold b nan)) k p.vm; va = p.va }

unfoldable pub pinned : ℕ → List BusKind → List Float → Point → Point
pinned n kinds hold p = pin_to n kinds hold p

-- the schedule of a Q bus; Newton reads no other's
abbrev pub sched_at : BusKind → Float → Float
sched_at Slack q = nought
sched_at Pv q = nought
sched_at Pq q = q

unfoldable pub schedule_of : ℕ → List BusKind → List Float → List Float
schedule_of n kinds q = table n nought (λ b. sched_at (kind_of kinds b) (get_or q b nan))

unfoldable pub kept_kinds : ℕ → List BusKind → List BusKind
kept_kinds n kinds = table n Slack (kind_of kinds)

unfoldable pub letters_of : ℕ → List BusKind → List ℕ
letters_of n kinds = table n 0 (λ b. kind_letter (kind_of kinds b))

-- Demand 3 at this level: what the rounds give does not change with withheld figures. Assumes nothing.
use Prim.Native.Nat.{ℕ, ◌≤◌, ◌<◌}
use Rattle.std.specs.Prelude.{Bool, cond, ◌⊎◌, ◌≡◌, length, get_or, Float, Option, None}
use mathlib.Core.List.{List}
use Rattle.std.proofs.Common.{inl, inr, ◌∙◌, arith}
use Rattle.std.proofs.Math.Path.{refl, ap}
use Rattle.std.proofs.lemmas.List.{length-replicate, get_or-replicate}
use Rattle.std.specs.Float.Ieee.{nan, add, le}
use Rattle.std.specs.Float.{binary64}
use Rattle.real.specs.Literals.{tolerance}
use Rattle.real.specs.Norm.{norm_of}
use Rattle.layout.specs.declared.BusKind.{BusKind}
use Rattle.layout.specs.declared.BusKind.TheVariants.{Slack, Pv, Pq}
use Rattle.layout.specs.declared.Point.{Point}
use Rattle.layout.specs.Table.Laws.{stores-length, stores_at, stores-ext, table_at}
use Rattle.layout.specs.Layout.{kind_of, layout_of}
use Rattle.layout.specs.Residual.{powers, residual_of}
use Rattle.layout.specs.Residual.Laws.{NoActive, NoReactive}
use Rattle.layout.proofs.Unread.{residual-unread}
use Rattle.injections.specs.Injections.{injections_of}
use Rattle.newton.specs.Newton.{Problem, problem, measured_of, newton_of, Run, ended_of, space_after}
use Rattle.newton.specs.Newton.Laws.{newton-same}
use Rattle.moves.specs.declared.Limit.{Limit}
use Rattle.moves.specs.declared.Move.{Move}
use Rattle.moves.specs.declared.Move.TheVariants.{Keep}
use Rattle.moves.specs.declared.Track.{Track}
use Rattle.moves.specs.Moves.{move_at, moves_of, any_move, kinds_after, track_to, track_after, pinned, sched_at, schedule_of, kept_kinds}
use Rattle.moves.specs.Moves.Laws.{NoLimits, Standing, slack, held, converted, loaded, active-v, active-q, reactive-q, move-alike, After, standing_on}
use Rattle.qlim.specs.Rounds.{Study, study, Done, done, infinity, round_of, last_round, earlier_round, rounds_from, fresh, qlim_of}

-- alike for rounds that begin under these kinds: at each bus a figure agrees, or the bus is of a kind at which it is withheld
pub record AlikeStudies (kinds : List BusKind) (s u : Study) : Type 0 where
  pub same_n : s.n ≡ u.n
  pub same_y : s.y ≡ u.y
  pub same_hold : s.hold ≡ u.hold
  pub same_gens : s.limits.has_gen ≡ u.limits.has_gen
  pub same_pd : (b : ℕ) → b < s.n → NoActive (kind_of kinds b) ⊎ (get_or s.pd b nan ≡ get_or u.pd b nan)
  pub same_qd : (b : ℕ) → b < s.n → NoActive (kind_of kinds b) ⊎ (get_or s.qd b nan ≡ get_or u.qd b nan)
  pub same_pg : (b : ℕ) → b < s.n → NoActive (kind_of kinds b) ⊎ (get_or s.pg b nan ≡ get_or u.pg b nan)
  pub same_qg : (b : ℕ) → b < s.n → NoReactive (kind_of kinds b) ⊎ (get_or s.qg b nan ≡ get_or u.qg b nan)
  pub same_limits : (b : ℕ) → b < s.n
      → NoLimits (kind_of kinds b) ⊎ ((get_or s.limits.qmin b nan ≡ get_or u.limits.qmin b nan) × (get_or s.limits.qmax b nan ≡ get_or u.limits.qmax b nan))
  -- a place for each bus in the tables that the rounds write over
  pub kinds_fit : s.n ≤ length kinds
  pub qg_fit : s.n ≤ length s.qg
  pub qg_fits : s.n ≤ length u.qg

-- u's figures in the study s
abbrev pub with : Study → Study → Study
with s u =
    study s.n s.y u.pd u.qd u.pg u.qg (record { qmin = u.limits.qmin; qmax = u.limits.qmax; has_gen = s.limits.has_gen }) s.hold

abbrev pub track : List Float → List (Option Limit) → List Bool → Track
track x c r = record { qsched = x; converted = c; reverted = r }

module _ (d : List BusKind) (s u : Study) (few : s.n ≤ 32) (a : AlikeStudies d s u) where
  -- each bus as it stands in some round
  pub record Stand (kinds : List BusKind) (c : List (Option Limit)) (x y : List Float) : Type 0 where
    kinds_room : s.n ≤ length kinds
    converted_room : s.n ≤ length c
    x_room : s.n ≤ length x
    y_room : s.n ≤ length y
    at : (b : ℕ) → b < s.n → Standing (kind_of d b) (kind_of kinds b) (get_or c b None) (get_or x b nan) (get_or y b nan)

  -- ---- Newton's steps

  module _ (kinds : List BusKind) (c : List (Option Limit)) (x y : List Float) (i : Stand kinds c x y) where
    active : {e k : BusKind} {z : Option Limit} {v w : Float} {A B : Type 0} → Standing e k z v w → NoActive e ⊎ A → NoActive e ⊎ B → NoActive k ⊎ (A × B)
    active slack p q = inl refl
    active held p q = inr (active-v p, active-v q)
    active (converted f) p q = inr (active-v p, active-v q)
    active (loaded f) p q = inr (active-q p, active-q q)

    reactive : {e k : BusKind} {z : Option Limit} {v w : Float} {A : Type 0} → Standing e k z v w → NoActive e ⊎ A → NoReactive k ⊎ ((v ≡ w) × A)
    reactive slack p = inl (inl refl)
    reactive held p = inl (inr refl)
    reactive (converted f) p = inr (f, active-v p)
    reactive (loaded f) p = inr (f, active-q p)

    abbrev one : Problem
    one = problem s.y (layout_of s.n kinds) s.pd s.qd s.pg x

    abbrev other : Problem
    other = problem s.y (layout_of s.n kinds) u.pd u.qd u.pg y

    residual-alike : (p q : List Float)
        → residual_of (layout_of s.n kinds) (powers s.pd s.qd s.pg x p q) ≡ residual_of (layout_of s.n kinds) (powers u.pd u.qd u.pg y p q)
    residual-alike p q =
        residual-unread s.n kinds _ _ few
        (record {
          calc_p = refl;
          calc_q = refl;
          active = λ b h. active (i.at b h) (a.same_pg b h) (a.same_pd b h);
          reactive = λ b h. reactive (i.at b h) (a.same_qd b h);
        })

    measured-alike : (p : Point) → measured_of one p ≡ measured_of other p
    unfolding measured_of
    measured-alike p =
        let found = injections_of (layout_of s.n kinds).n s.y p.vm p.va in
        λ j. record { phasors = found.phasors; r = residual-alike found.power.p found.power.q j; residual = norm_of (layout_of s.n kinds).dim (residual-alike found.power.p found.power.q j) }

    pub newton-alike : (p : Point) (w : List Float) → newton_of one p w ≡ newton_of other p w
    newton-alike = newton-same one other refl refl measured-alike

    -- ---- the moves

    module _ (r : List Bool) (q vm : List Float) where
      abbrev moves : List Move
      moves = moves_of s.n kinds s.limits (track x c r) s.qd q vm s.hold

      abbrev moves' : List Move
      moves' = moves_of s.n kinds (with s u).limits (track y c r) u.qd q vm s.hold

      sum_alike : (b : ℕ) → b < s.n → NoActive (kind_of d b) ⊎ (add binary64 (get_or q b nan) (get_or s.qd b nan) ≡ add binary64 (get_or q b nan) (get_or u.qd b nan))
      sum_alike b h = go (a.same_qd b h)
        where
          go : NoActive (kind_of d b) ⊎ (get_or s.qd b nan ≡ get_or u.qd b nan)
              → NoActive (kind_of d b) ⊎ (add binary64 (get_or q b nan) (get_or s.qd b nan) ≡ add binary64 (get_or q b nan) (get_or u.qd b nan))
          go (inl e) = inl e
          go (inr e) = inr (rw e)

      moves-alike : moves ≡ moves'
      unfolding moves_of
      moves-alike = stores-ext _ _ s.n _ (λ b h. move-alike _ _ _ _ _ _ _ _ _ _ (i.at b h) (sum_alike b h) (a.same_limits b h))

      -- after a move
      abbrev track_on : Track
      track_on = track_to s.n (track x c r) s.limits s.qg moves

      abbrev track_on' : Track
      track_on' = track_to s.n (track y c r) (with s u).limits u.qg moves

      bus-on : (b : ℕ) → b < s.n
          → After (get_or s.limits.qmin b nan) (get_or u.limits.qmin b nan) (get_or s.limits.qmax b nan) (get_or u.limits.qmax b nan) (get_or s.qg b nan) (get_or u.qg b nan)
          (kind_of d b) (kind_of kinds b) (get_or c b None) (get_or x b nan) (get_or y b nan) (get_or moves b Keep)
      unfolding moves_of
      bus-on b h =
          rw (table_at s.n Keep (move_at kinds s.limits (track x c r) s.qd q vm s.hold) b Keep h few) (standing_on _ _ _ _ _ _ _ _ _ _ _ (i.at b h) (a.same_limits b h))

      stand-on : Stand (kinds_after s.n kinds moves) track_on.converted track_on.qsched track_on'.qsched
      unfolding kinds_after
      stand-on =
          record {
            kinds_room = rw stores-length i.kinds_room;
            converted_room = rw stores-length i.converted_room;
            x_room = rw stores-length i.x_room;
            y_room = rw stores-length i.y_room;
            at =
                λ b h. rw (stores_at _ s.n kinds b Slack h i.kinds_room, stores_at _ s.n c b None h i.converted_room, stores_at _ s.n x b nan h i.x_room, stores_at _ s.n y b nan h i.y_room) (bus-on b h);
          }

  -- ---- the rounds

  abbrev pub Rest : Type 0
  Rest = List BusKind → Track → Point → List Float → Done

  -- whatever goes on from tables that stand goes on alike
  abbrev pub Alike : Rest → Rest → Type 0
  Alike f g =
      (kinds : List BusKind) (c : List (Option Limit)) (r : List Bool) (x y : List Float) → Stand kinds c x y → (p : Point) (w : List Float) → f kinds (track x c r) p w ≡ g kinds (track y c r) p w

  module _ (kinds : List BusKind) (c : List (Option Limit)) (r : List Bool) (x y : List Float) (i : Stand kinds c x y) (e : Run) where
    abbrev at_end : Point
    at_end = (ended_of e).point

    -- of the schedule only the Q buses' figures are handed on
    schedule-alike : schedule_of s.n kinds x ≡ schedule_of s.n kinds y
    unfolding schedule_of
    schedule-alike = stores-ext _ _ s.n _ (λ b h. go (i.at b h))
      where
        go : {d k : BusKind} {c : Option Limit} {v z : Float} → Standing d k c v z → sched_at k v ≡ sched_at k z
        go slack = refl
        go held = refl
        go (converted f) = f
        go (loaded f) = f

    abbrev q_end : List Float
    q_end = (injections_of s.n s.y at_end.vm at_end.va).power.q

    same-moves : moves kinds c x y i r q_end at_end.vm ≡ moves' kinds c x y i r q_end at_end.vm
    same-moves = moves-alike kinds c x y i r q_end at_end.vm

    -- Newton's end, given with a schedule and a residual
    abbrev ends : List Float → Float → Done
    ends z res = done (record { ended = ended_of e; kinds = kept_kinds s.n kinds; schedule = z; residual = res }) (space_after e)

    -- the round, once its schedule, its moves and what follows them are known
    abbrev turned : List Float → List Move → Done → Done
    turned z ms after =
        let end = ends z (ended_of e).residual in
        cond (le tolerance (ended_of e).residual) end (cond (any_move s.n ms) after end)

    pub last-alike : last_round s kinds (track x c r) e ≡ last_round (with s u) kinds (track y c r) e
    unfolding round_of
    last-alike =
        let q = schedule_of s.n kinds y in
        ap (λ (z : List Float). turned z (moves kinds c x y i r q_end at_end.vm) (ends z infinity)) schedule-alike
        ∙ ap (λ (m : List Move). turned q m (ends q infinity)) same-moves

    -- where `rest` goes on from the moves
    abbrev goes : Rest → Study → List Float → List Move → Done
    goes rest t z ms =
        let next = kinds_after s.n kinds ms in
        rest next (track_to s.n (track z c r) t.limits t.qg ms) (pinned s.n next s.hold at_end) (space_after e)

    pub earlier-alike : (f g : Rest) → Alike f g → earlier_round s kinds (track x c r) e f ≡ earlier_round (with s u) kinds (track y c r) e g
    unfolding round_of track_after
    earlier-alike f g alike =
        let ms = moves kinds c x y i r q_end at_end.vm in
        let q = schedule_of s.n kinds y in
        ap (turned (schedule_of s.n kinds x) ms) (alike _ _ (track_on kinds c x y i r q_end at_end.vm).reverted _ _ (stand-on kinds c x y i r q_end at_end.vm) _ _)
        ∙ ap (λ (z : List Float). turned z ms (goes g (with s u) y ms)) schedule-alike
        ∙ ap (λ (m : List Move). turned q m (goes g (with s u) y m)) same-moves

  pub begin : Stand d (fresh s.qg).converted s.qg u.qg
  begin =
      record {
        kinds_room = a.kinds_fit;
        converted_room = rw length-replicate few;
        x_room = a.qg_fit;
        y_room = a.qg_fits;
        at = λ b h. rw (get_or-replicate {A = Option Limit} 32 b None None (omega arith)) (go (kind_of d b) (a.same_qg b h));
      }
    where
      go : (k : BusKind) {v w : Float} → NoReactive k ⊎ (v ≡ w) → Standing k k None v w
      go Slack e = slack
      go Pv e = held
      go Pq e = loaded (reactive-q e)

-- ---- what the rounds give

-- of the start only what is left of it once the held magnitudes are set
pub start-unread : (kinds : List BusKind) (s : Study) (p q : Point) → pinned s.n kinds s.hold p ≡ pinned s.n kinds s.hold q → (w : List Float)
    → qlim_of s kinds p w ≡ qlim_of s kinds q w
unfolding qlim_of
start-unread kinds s p q e w = by 11
  where
    by : (m : ℕ) → rounds_from m s kinds (fresh s.qg) (pinned s.n kinds s.hold p) w ≡ rounds_from m s kinds (fresh s.qg) (pinned s.n kinds s.hold q) w
    by m = ap (λ (start : Point). rounds_from m s kinds (fresh s.qg) start w) e

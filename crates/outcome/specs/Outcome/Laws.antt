-- What the room tells, the columns and the workspace as they are written, and that 01's numbers and values tell the answers apart. Assumes nothing.
use Rattle.std.proofs.lemmas.List.{length-replicate, get_or-replicate}
use Rattle.real.specs.Literals.{nought}
use Rattle.layout.specs.Table.{stores}
use Rattle.std.specs.Prelude.{ℕ, ◌≤◌, true, false, cond, Result, Ok, Err, List, [], ◌∷◌, ◌++◌, take, drop, ◌≡◌, refl, length, eqb, Float, ◌<◌, replicate, get_or}
use Rattle.std.proofs.Common.{sym, ap, ◌∙◌, leb-true, le_refl, ext_get_or}
use Rattle.std.specs.Float.{nan}
use Rattle.real.specs.Tests.{both_l, both_r}
use Rattle.real.specs.declared.Value.{Value}
use Rattle.real.specs.declared.Value.TheVariants.{Whole, Real}
use Rattle.real.specs.Paper.{place_in, Paper, given, refused, is_given}
use Rattle.network.specs.Network.{Triplets}
use Rattle.layout.specs.declared.BusKind.{BusKind}
use Rattle.layout.specs.declared.Point.{Point}
use Rattle.layout.specs.Table.Laws.{stored-taken, stores-length, stores_at}
use Rattle.injections.specs.declared.Injections.{Injections}
use Rattle.injections.specs.Injections.{injections_of}
use Rattle.moves.specs.Moves.{letters_of}
use Rattle.outcome.specs.declared.Solved.{Solved}
use Rattle.outcome.specs.declared.Refusal.{Refusal}
use Rattle.outcome.specs.declared.Refusal.TheVariants.{Counts, Room, Slack, Generator, Branch, Triplet, Tap, Ends, NotConverged}
use Rattle.outcome.specs.declared.Lengths.{Lengths}
use Rattle.outcome.specs.Outcome.{paper_of, refusal_paper, Outs, outs, lengths_in, OnePerBus, roomy, with_answer, zeros}

-- ---- the room

pub one-per-bus : (n : ℕ) (m : Lengths) (space : ℕ) → roomy n m space ≡ true → OnePerBus n m × (6144 ≤ space)
unfolding roomy
one-per-bus n m space h =
    let h₁ = both_r _ _ h in
    let h₂ = both_r _ _ h₁ in
    let h₃ = both_r _ _ h₂ in
    let h₄ = both_r _ _ h₃ in (
      record {
        vm = leb-true _ _ (both_l _ _ h);
        va = leb-true _ _ (both_l _ _ h₁);
        p = leb-true _ _ (both_l _ _ h₂);
        q = leb-true _ _ (both_l _ _ h₃);
        kinds = leb-true _ _ (both_l _ _ h₄);
      },
      leb-true _ _ (both_r _ _ h₄),
    )

-- ---- the writing

-- the five columns, each by itself
pub answer-written : (n : ℕ) (y : Triplets) (point : Point) (kept : List BusKind) (o : Outs) (found : Injections) → found ≡ injections_of n y point.vm point.va
    → (letters : List ℕ) → letters ≡ letters_of n kept → (vm va p q : List Float) (kinds : List ℕ)
    → vm ≡ stores (λ b. get_or point.vm b nan) n o.vm → va ≡ stores (λ b. get_or point.va b nan) n o.va
    → p ≡ stores (λ b. get_or found.power.p b nan) n o.p → q ≡ stores (λ b. get_or found.power.q b nan) n o.q
    → kinds ≡ stores (λ b. get_or letters b 0) n o.kinds → outs vm va p q kinds ≡ with_answer n y point kept o
unfolding with_answer
answer-written n y point kept o found ef letters el vm va p q kinds em ea ep eq ek = rw (em, ea, ep, eq, ek, el, ef)

-- the same where the first places are copied, and the rest stays
pub answer-copied : (n : ℕ) (y : Triplets) (point : Point) (kept : List BusKind) (o : Outs) (found : Injections) → found ≡ injections_of n y point.vm point.va
    → (letters : List ℕ) → letters ≡ letters_of n kept → OnePerBus n (lengths_in o)
    → n ≤ length point.vm → n ≤ length point.va → n ≤ length found.power.p → n ≤ length found.power.q → n ≤ length letters
    → (vm va p q : List Float) (kinds : List ℕ)
    → vm ≡ take n point.vm ++ drop n o.vm → va ≡ take n point.va ++ drop n o.va
    → p ≡ take n found.power.p ++ drop n o.p → q ≡ take n found.power.q ++ drop n o.q
    → kinds ≡ take n letters ++ drop n o.kinds → outs vm va p q kinds ≡ with_answer n y point kept o
answer-copied n y point kept o found ef letters el room lm la lp lq lk vm va p q kinds em ea ep eq ek =
    answer-written n y point kept o found ef letters el vm va p q kinds
    (em ∙ stored-taken n point.vm o.vm nan lm room.vm)
    (ea ∙ stored-taken n point.va o.va nan la room.va)
    (ep ∙ stored-taken n found.power.p o.p nan lp room.p)
    (eq ∙ stored-taken n found.power.q o.q nan lq room.q)
    (ek ∙ stored-taken n letters o.kinds 0 lk room.kinds)

-- a workspace written over with +0.0, place by place
pub zeros-are : (w : List Float) → stores (λ b. nought) (length w) w ≡ zeros w
unfolding zeros
zeros-are w =
    ext_get_or nought (stores (λ b. nought) (length w) w) (replicate (length w) nought) (simp (stores-length, length-replicate))
    (λ i h. let p : i < length w = rw stores-length at h in stores_at (λ b. nought) (length w) w i nought p (le_refl (length w)) ∙ sym (get_or-replicate (length w) i nought nought p))

-- ---- the answer on paper

-- the outcome that an answer on paper is of
abbrev spent : List Value → Refusal
spent [] = Counts
spent (Whole n ∷ vs) = Counts
spent (Real x ∷ vs) = NotConverged x (place_in vs)

-- the value behind the first
abbrev second : List Value → ℕ
second [] = 0
second (v ∷ vs) = place_in vs

abbrev back_refused : ℕ → List Value → Refusal
back_refused n values =
    cond (eqb n 7) Counts
    (cond (eqb n 9) Room
    (cond (eqb n 8) (Slack (place_in values))
    (cond (eqb n 11) (Generator (place_in values))
    (cond (eqb n 12) (Branch (place_in values) (second values))
    (cond (eqb n 13) (Triplet (place_in values) (second values))
    (cond (eqb n 14) (Tap (place_in values)) (cond (eqb n 15) (Ends (place_in values)) (spent values))))))))

abbrev back : Paper (ℕ × Float) → Result Solved Refusal
back (given found) = Ok (record { iterations = found.0; residual = found.1 })
back (refused n values) = Err (back_refused n values)

-- a refusal is no answer
pub never-given : (r : Refusal) → is_given (refusal_paper r) ≡ false
never-given Counts = refl
never-given Room = refl
never-given (Slack row) = refl
never-given (Generator row) = refl
never-given (Branch row field) = refl
never-given (Triplet row field) = refl
never-given (Tap row) = refl
never-given (Ends row) = refl
never-given (NotConverged m k) = refl

back-refusal : (r : Refusal) → back (refusal_paper r) ≡ Err r
back-refusal Counts = refl
back-refusal Room = refl
back-refusal (Slack row) = refl
back-refusal (Generator row) = refl
back-refusal (Branch row field) = refl
back-refusal (Triplet row field) = refl
back-refusal (Tap row) = refl
back-refusal (Ends row) = refl
back-refusal (NotConverged m k) = refl

back-paper : (r : Result Solved Refusal) → back (paper_of r) ≡ r
back-paper (Ok s) = refl
back-paper (Err r) = back-refusal r

pub paper-one : (r s : Result Solved Refusal) → paper_of r ≡ paper_of s → r ≡ s
paper-one r s e = sym (back-paper r) ∙ ap back e ∙ back-paper s

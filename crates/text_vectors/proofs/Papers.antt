-- An answer is the one told exactly where its number is, and with it the place or what the text holds. Assumes nothing.
use Rattle.std.specs.Prelude.{ℕ, ◌<◌, ◌≡◌, Bool, true, false, List, ◌&&◌, ◌||◌, eqb}
use Rattle.std.proofs.Common.{refl, sym, ap, ◌∙◌, arith, eq-eqb, eqb-true, ne_eqb}
use Rattle.std.proofs.Math.Logic.{⊎_elim}
use Rattle.real.specs.Tests.{decided, true-false}
use Rattle.real.specs.Paper.{Paper}
use Rattle.vectors.specs.Words.{Tells}
use Rattle.vectors.specs.Words.Laws.{equal-told, ◌and◌, last-told, never-told}
use Rattle.network.specs.declared.Rows.{Rows}
use Rattle.network.specs.Network.{Network, network_of}
use Rattle.network.specs.BranchTable.{BranchTable, branch_table_of}
use Rattle.case_text.specs.Answer.{paper_of, ReadResult, read_result}
use Rattle.case_text.specs.Text.{Reading}
use Rattle.case_text.specs.declared.Contents.{Contents}
use Rattle.case_text.proofs.Refusals.{Refused, refused-paper}
use Rattle.reader.specs.Reader.{Columns, columns_of}
use Rattle.text_vectors.specs.Told.{number_in, place_of, refusal, answer, paper_told, outcome_told}
use Rattle.text_vectors.specs.Told.{buses_told, slacks_told, generators_told, branches_told, triplets_told, values_told, branch_table_told}

-- ---- a refusal

number-answer : (n at : ℕ) (c : Contents) → number_in (answer n at c) ≡ n
number-answer n at c = ⊎_elim (λ e. rw e (sym (eqb-true n 0 e))) (λ e. rw e) (decided (eqb n 0))

module _ (n at m p : ℕ) (c : Contents) where
  pub same_number : refusal n at ≡ answer m p c → n ≡ m
  same_number e = ap number_in e ∙ number-answer m p c

  pub nine-told : n ≡ m → n ≡ 9 → refusal n at ≡ answer m p c
  nine-told e k = rw (← e, k)

  pub place_told_lem : 0 < n → (n ≡ 9 → ⊥) → n ≡ m → Tells (eqb at p) (refusal n at ≡ answer m p c)
  place_told_lem h k e =
      rw (← e, ne_eqb n 0 (λ z. omega arith), ne_eqb n 9 k) (λ i. rw (eqb-true at p i), λ i. eq-eqb at p (ap place_of i))

  pub refusal-told : 0 < n → Tells (eqb m n && (eqb n 9 || eqb at p)) (refusal n at ≡ answer m p c)
  refusal-told h = go (eqb m n) (eqb n 9) refl refl
    where
      go : (t u : Bool) → eqb m n ≡ t → eqb n 9 ≡ u → Tells (t && (u || eqb at p)) (refusal n at ≡ answer m p c)
      go false u e k = never-told (λ q. true-false (eq-eqb m n (sym (same_number q))) e)
      go true true e k = (λ x. nine-told (sym (eqb-true m n e)) (eqb-true n 9 k), λ x. refl)
      go true false e k = place_told_lem h (λ z. true-false (eq-eqb n 9 z) k) (sym (eqb-true m n e))

pub refusal-paper : (v : Reading) → Refused v → refusal (number_in (paper_of v)) (place_of (paper_of v)) ≡ paper_of v
refusal-paper v h = let t = refused-paper v h in rw t.3 (⊎_elim (λ q. rw q) (λ q. rw q) (decided (eqb t.0 9)))

pub refusal-number : (v : Reading) → Refused v → 0 < number_in (paper_of v)
refusal-number v h = let t = refused-paper v h in rw t.3 t.2

-- ---- the rows

pub rows_told_lem : (r q : Rows)
    → Tells ((((eqb r.buses q.buses && eqb r.slacks q.slacks) && eqb r.generators q.generators) && eqb r.branches q.branches) && eqb r.triplets q.triplets) (r ≡ q)
rows_told_lem r q =
    last-told (equal-told _ _ and equal-told _ _ and equal-told _ _ and equal-told _ _ and equal-told _ _)
    (λ e. ((((λ i. (e i).buses, λ i. (e i).slacks), λ i. (e i).generators), λ i. (e i).branches), λ i. (e i).triplets))
    (λ ((((b, r), g), l), y). λ i. record { buses = b i; slacks = r i; generators = g i; branches = l i; triplets = y i })

-- ---- the answer and the tables

parts : {p q : Paper Contents} {t u : Columns} → read_result p t ≡ read_result q u → (p ≡ q) × (t ≡ u)
parts e = (cc, cc)

-- a reading is told by its answer and its tables
pub outcome_parts : {p : Paper Contents} {t : Network} {k : BranchTable} (s : List ℕ) {a b r g l y e v : Bool} → Tells a (p ≡ paper_told s)
    → Tells b (t.buses ≡ buses_told s) → Tells r (t.slacks ≡ slacks_told s) → Tells g (t.generators ≡ generators_told s)
    → Tells l (t.branches ≡ branches_told s 13) → Tells y (t.triplets ≡ triplets_told s)
    → Tells e (k.ends ≡ branches_told s 19) → Tells v (k.values ≡ values_told s)
    → Tells (((((((a && b) && r) && g) && l) && y) && e) && v) (read_result p (columns_of t k) ≡ outcome_told s)
outcome_parts s a b r g l y e v =
    last-told (a and b and r and g and l and y and e and v)
    (λ q. let (p, c) = parts q in (
      (
        (((((p, λ i. (c i).network.buses), λ i. (c i).network.slacks), λ i. (c i).network.generators), λ i. (c i).network.branches), λ i. (c i).network.triplets),
        λ i. (c i).table.ends,
      ),
      λ i. (c i).table.values,
    ))
    (λ (((((((p, b), r), g), l), y), e), v). λ i. read_result (p i) (columns_of (network_of (b i) (r i) (g i) (l i) (y i)) (branch_table_of (e i) (v i))))

-- ---- all but the table of branches

abbrev pub table_in : ReadResult Columns → BranchTable
table_in (read_result p c) = c.table

abbrev pub with_table : BranchTable → ReadResult Columns → ReadResult Columns
with_table t (read_result p c) = read_result p (columns_of c.network t)

-- a reading is what the record says, once it has the table that the record says
unfoldable pub RestAgrees : List ℕ → ReadResult Columns → Type 0
RestAgrees s o = with_table (branch_table_told s) o ≡ outcome_told s

-- with that table the reading is what the record says
pub outcome_told_lem : (o : ReadResult Columns) (s : List ℕ) {t : BranchTable} {r e v : Bool} → table_in o ≡ t
    → Tells r (RestAgrees s o) → Tells e (t.ends ≡ branches_told s 19) → Tells v (t.values ≡ values_told s)
    → Tells ((r && e) && v) (o ≡ outcome_told s)
unfolding RestAgrees
outcome_told_lem (read_result p c) s is r e v =
    last-told (r and e and v)
    (λ q. let t = sym is ∙ ap table_in q in ((ap (with_table (branch_table_told s)) q, λ i. (t i).ends), λ i. (t i).values))
    (λ ((q, e), v). let f = parts q in
    let t = is ∙ (λ i. branch_table_of (e i) (v i)) in
    λ i. read_result (f.0 i) (columns_of (f.1 i).network (t i)))

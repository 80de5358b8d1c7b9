-- What the checks tell, each refusal by its cause.
use Rattle.std.specs.Prelude.{ℕ, Bool, ◌≡◌, Option, Some, None, Result, Ok, Err}
use Rattle.std.proofs.Math.Bool.{true, false}
use Rattle.std.proofs.Math.Path.{refl, sym, ap}
use Rattle.std.proofs.Common.{◌∙◌, not-suc-le-zero}
use Rattle.real.specs.Tests.{no-case, both_r}
use Rattle.network.specs.declared.Naming.{Naming}
use Rattle.network.specs.declared.MissingBus.{MissingBus}
use Rattle.network.specs.Network.{Network}
use Rattle.network.specs.Checks.{counted}
use Rattle.network.specs.Checks.Laws.{counted_branches_lem}
use Rattle.network.specs.Missing.{missing_at, missing_in}
use Rattle.network.specs.Missing.Laws.{missing-means}
use Rattle.network.specs.BranchTable.{BranchNetwork, with_triplets, no_triplets}
use Rattle.ybus.specs.declared.Fault.{Fault}
use Rattle.ybus.specs.Fault.{fault_of}
use Rattle.ybus.specs.Fault.Laws.{Above, Meet, FirstFault}
use Rattle.outcome.specs.declared.Refusal.{Refusal}
use Rattle.outcome.specs.declared.Refusal.TheVariants.{Counts, Room, Slack, Generator, Branch, Triplet, Tap, Ends, NotConverged}
use Rattle.outcome.specs.declared.Lengths.{Lengths}
use Rattle.outcome.specs.Outcome.{row_refusal}
use Rattle.branch_checks.specs.BranchChecks.{counted_branches, roomy_branches, fault_refusal, checked_rows_of, checked_branches_of}

-- ---- the checks

module _ (t : BranchNetwork) (m : Lengths) (places space : ℕ) where
  -- the tables without triplets, on which the first edition's checks are made
  abbrev bare : Network
  bare = with_triplets t no_triplets

  abbrev fault : Option Fault
  fault = fault_of t.table.ends t.table.values.tap

  pub check-counts : counted_branches t ≡ false → Err Counts ≡ checked_branches_of t m places space
  unfolding checked_branches_of
  check-counts h = rw h

  pub check-room : counted_branches t ≡ true → roomy_branches t m places space ≡ false → Err Room ≡ checked_branches_of t m places space
  unfolding checked_branches_of
  check-room h k = rw (h, k)

  pub check-rows : counted_branches t ≡ true → roomy_branches t m places space ≡ true → checked_rows_of t ≡ checked_branches_of t m places space
  unfolding checked_branches_of
  check-rows h k = rw (h, k)

  -- what it tells that no check before 14 and 15 refuses
  pub record Passed : Type 0 where
    pub counts : counted_branches t ≡ true
    pub room : roomy_branches t m places space ≡ true
    pub none_missing : missing_in bare ≡ None

  -- what it tells that they are ready
  pub record MetBranches : Type 0 where
    pub passed : Passed
    pub none_at_fault : fault ≡ None

  pub met-branches : Ok tt ≡ checked_branches_of t m places space → MetBranches
  unfolding checked_branches_of
  met-branches e = go (counted_branches t) (roomy_branches t m places space) (missing_in bare) fault refl refl refl refl
    where
      go : (a b : Bool) (c : Option MissingBus) (f : Option Fault) → counted_branches t ≡ a → roomy_branches t m places space ≡ b → missing_in bare ≡ c → fault ≡ f → MetBranches
      go true true None None p q r x = record { passed = record { counts = p; room = q; none_missing = r }; none_at_fault = x }
      go true true None (Some (Fault.Tap row)) p q r x = let k : Ok tt ≡ Err (Tap row) = rw (p, q, r, x) at e in no-case cc
      go true true None (Some (Fault.Ends row)) p q r x = let k : Ok tt ≡ Err (Ends row) = rw (p, q, r, x) at e in no-case cc
      go true true (Some at) f p q r x =
          let k : Ok tt ≡ Err (row_refusal at.table at.row at.field) = rw (p, q, r) at e in no-case cc
      go true false c f p q r x = let k : Ok tt ≡ Err Room = rw (p, q) at e in no-case cc
      go false b c f p q r x = let k : Ok tt ≡ Err Counts = rw p at e in no-case cc

  -- 13 is never told: there is no triplet that could name a missing bus
  no-triplet-missing : counted bare ≡ true → (row field : ℕ) → missing_in bare ≡ Some (missing_at Naming.Triplet row field) → ⊥
  no-triplet-missing h row field e = not-suc-le-zero (rw e at (missing-means bare (counted_branches_lem bare h).to refl)).1.inside

  pub never-13 : (row field : ℕ) → checked_branches_of t m places space ≡ Err (Triplet row field) → ⊥
  unfolding checked_branches_of
  never-13 row field e = go (counted_branches t) (roomy_branches t m places space) (missing_in bare) fault refl refl refl refl
    where
      go : (a b : Bool) (c : Option MissingBus) (f : Option Fault) → counted_branches t ≡ a → roomy_branches t m places space ≡ b → missing_in bare ≡ c → fault ≡ f → ⊥
      go false b c f p q r x = let k : Err Counts ≡ Err (Triplet row field) = rw p at e in no-case cc
      go true false c f p q r x = let k : Err Room ≡ Err (Triplet row field) = rw (p, q) at e in no-case cc
      go true true (Some at) f p q r x = named at.table at.row at.field (rw (p, q, r) at e) r
        where
          named : (table : Naming) (i j : ℕ) → ◌≡◌ {A = Result (Unit {0}) Refusal} (Err (row_refusal table i j)) (Err (Triplet row field)) → missing_in bare ≡ Some (missing_at table i j) → ⊥
          named Naming.Slack i j k r = no-case cc
          named Naming.Generator i j k r = no-case cc
          named Naming.Branch i j k r = no-case cc
          named Naming.Triplet i j k r = no-triplet-missing (both_r _ _ p) i j r
      go true true None f p q r x = refusal f (rw (p, q, r, x) at e)
        where
          refusal : (f : Option Fault) → fault_refusal f ≡ Err (Triplet row field) → ⊥
          refusal (Some (Fault.Tap i)) k = no-case cc
          refusal (Some (Fault.Ends i)) k = no-case cc
          refusal None k = no-case cc

-- ---- what 14 and 15 mean

-- the row told is the first at fault, in tables that pass 7, 9, 8, 11 and 12
pub record TapRefused (t : BranchNetwork) (m : Lengths) (places space row : ℕ) : Type 0 where
  pub passed : Passed t m places space
  pub lowest : FirstFault t.table.ends t.table.values.tap row
  pub not_above : Above t.table.values.tap row → ⊥

pub record EndsRefused (t : BranchNetwork) (m : Lengths) (places space row : ℕ) : Type 0 where
  pub passed : Passed t m places space
  pub lowest : FirstFault t.table.ends t.table.values.tap row
  pub above : Above t.table.values.tap row
  pub meet : Meet t.table.ends row

-- the fault that a refusal tells
abbrev fault_in : Result (Unit {0}) Refusal → Option Fault
fault_in (Err (Tap row)) = Some (Fault.Tap row)
fault_in (Err (Ends row)) = Some (Fault.Ends row)
fault_in (Err Counts) = None
fault_in (Err Room) = None
fault_in (Err (Slack row)) = None
fault_in (Err (Generator row)) = None
fault_in (Err (Branch row field)) = None
fault_in (Err (Triplet row field)) = None
fault_in (Err (NotConverged mismatch starts)) = None
fault_in (Ok x) = None

fault_in_lem : (f : Option Fault) → fault_in (fault_refusal f) ≡ f
fault_in_lem (Some (Fault.Tap row)) = refl
fault_in_lem (Some (Fault.Ends row)) = refl
fault_in_lem None = refl

-- that of a row that names a missing bus is none
row-no-fault : (table : Naming) (i j : ℕ) → fault_in (Err (row_refusal table i j)) ≡ None
row-no-fault Naming.Slack i j = refl
row-no-fault Naming.Generator i j = refl
row-no-fault Naming.Branch i j = refl
row-no-fault Naming.Triplet i j = refl

module _ (t : BranchNetwork) (m : Lengths) (places space : ℕ) where
  -- so a fault that is told is the branches', and the checks before it refuse nothing
  pub fault-told : (f : Option Fault) → checked_branches_of t m places space ≡ fault_refusal f → (f ≡ None → ⊥) → Passed t m places space × (fault t m places space ≡ f)
  unfolding checked_branches_of
  fault-told f e some = go (counted_branches t) (roomy_branches t m places space) (missing_in (bare t m places space)) refl refl refl
    where
      -- what is told of f by a refusal that is no fault's
      told : (c : Result (Unit {0}) Refusal) → c ≡ fault_refusal f → fault_in c ≡ None → f ≡ None
      told c k h = sym (fault_in_lem f) ∙ ap fault_in (sym k) ∙ h

      go : (a b : Bool) (c : Option MissingBus) → counted_branches t ≡ a → roomy_branches t m places space ≡ b → missing_in (bare t m places space) ≡ c
          → Passed t m places space × (fault t m places space ≡ f)
      go true true None p q r =
          let same : fault_refusal (fault t m places space) ≡ fault_refusal f = rw (p, q, r) at e in
          (record { counts = p; room = q; none_missing = r }, sym (fault_in_lem (fault t m places space)) ∙ ap fault_in same ∙ fault_in_lem f)
      go true true (Some at) p q r = absurd (some (told (Err (row_refusal at.table at.row at.field)) (rw (p, q, r) at e) (row-no-fault at.table at.row at.field)))
      go true false c p q r = absurd (some (told (Err Room) (rw (p, q) at e) refl))
      go false b c p q r = absurd (some (told (Err Counts) (rw p at e) refl))

-- What refusals 14 and 15 mean: the row told is the first at fault, and what the checks before it look for is not there. Assumes nothing.
use Rattle.std.specs.Prelude.{ℕ, ◌≡◌, Some, Err}
use Rattle.real.specs.Tests.{no-case}
use Rattle.network.specs.BranchTable.{BranchNetwork}
use Rattle.ybus.specs.declared.Fault.{Fault}
use Rattle.ybus.specs.Fault.Laws.{tap-told, ends-told}
use Rattle.outcome.specs.declared.Refusal.TheVariants.{Tap, Ends}
use Rattle.outcome.specs.declared.Lengths.{Lengths}
use Rattle.branch_checks.specs.BranchChecks.{checked_branches_of}
use Rattle.branch_checks.specs.BranchChecks.Laws.{TapRefused, EndsRefused, fault-told}

module _ (t : BranchNetwork) (m : Lengths) (places space : ℕ) where
  pub tap-refused : (row : ℕ) → checked_branches_of t m places space ≡ Err (Tap row) → TapRefused t m places space row
  tap-refused row e =
      let h = fault-told t m places space (Some (Fault.Tap row)) e (λ k. no-case (cc)) in
      let l = tap-told t.table.ends t.table.values.tap row h.1 in
      record { passed = h.0; lowest = l.0; not_above = l.1 }

  pub ends-refused : (row : ℕ) → checked_branches_of t m places space ≡ Err (Ends row) → EndsRefused t m places space row
  ends-refused row e =
      let h = fault-told t m places space (Some (Fault.Ends row)) e (λ k. no-case (cc)) in
      let l = ends-told t.table.ends t.table.values.tap row h.1 in
      record { passed = h.0; lowest = l.0; above = l.1; meet = l.2 }

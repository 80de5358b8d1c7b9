pub mod BranchChecks

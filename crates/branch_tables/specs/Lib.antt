pub mod BranchTables

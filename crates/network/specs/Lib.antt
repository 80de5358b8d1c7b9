pub mod Below
pub mod Network
pub mod Missing
pub mod Checks
pub mod BranchTable
pub mod Columns

pub mod Table
pub mod Kinds
pub mod Layout
pub mod Residual
pub mod FourTables
pub mod Limits

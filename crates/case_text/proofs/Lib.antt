pub mod Refusals
pub mod Unique
pub mod Examples
pub mod Before

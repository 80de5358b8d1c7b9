pub mod Absolute
pub mod Rounding
pub mod Literals
pub mod Examples

pub mod Telling
pub mod Papers

pub mod Words
pub mod Sizes

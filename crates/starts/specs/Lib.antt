pub mod References
pub mod Starts

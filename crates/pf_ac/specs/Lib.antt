pub mod Search
pub mod WithStart

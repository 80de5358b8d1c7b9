pub mod Step
pub mod Newton

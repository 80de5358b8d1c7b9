pub mod Injections
pub mod Jacobian

pub mod Branch
pub mod Fault
pub mod Listed
pub mod Ybus

pub mod Lines
pub mod Printer

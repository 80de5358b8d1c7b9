pub mod Printed
pub mod Before

pub mod Asked
pub mod Line
pub mod Rows
pub mod Printed
pub mod Before

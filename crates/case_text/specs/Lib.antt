pub mod Alphabet
pub mod Text
pub mod Answer
pub mod Printed
pub mod Named
pub mod Before
pub mod Old

pub mod Cut
pub mod Digits
pub mod Real
pub mod Powers
pub mod Decimal
pub mod Before

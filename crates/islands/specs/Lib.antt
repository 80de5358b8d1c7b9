pub mod Islands
pub mod Forest

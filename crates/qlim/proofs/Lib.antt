pub mod Rounds
pub mod Unread

pub mod TextAnswer

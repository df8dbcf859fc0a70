pub mod Saved
pub mod Kind
pub mod Text
pub mod Written

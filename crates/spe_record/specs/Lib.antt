pub mod Answers
pub mod Counted
pub mod Written
pub mod Fields

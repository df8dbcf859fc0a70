pub mod Answers
pub mod Refused
pub mod Rows
pub mod Table
pub mod Tables

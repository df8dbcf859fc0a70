pub mod Values
pub mod Replies
pub mod Outcomes
pub mod Passes
pub mod Law
pub mod Stored

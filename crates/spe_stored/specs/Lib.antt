pub mod Sheets
pub mod Shown
pub mod Stored
pub mod Kept
pub mod Plan

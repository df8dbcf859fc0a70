pub mod Pages
pub mod Work
pub mod Made
pub mod Steps
pub mod Commits
pub mod Kept
pub mod Growth

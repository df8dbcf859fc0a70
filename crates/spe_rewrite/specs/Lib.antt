pub mod Changes
pub mod Rewrite
pub mod Idle
pub mod Turns
pub mod Told
pub mod Laws

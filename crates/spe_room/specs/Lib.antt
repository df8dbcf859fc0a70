pub mod Held
pub mod Admits
pub mod Given
pub mod ReadOnly
pub mod Found

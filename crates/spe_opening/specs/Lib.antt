pub mod Below
pub mod Shared

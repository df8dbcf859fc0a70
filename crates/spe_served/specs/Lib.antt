pub mod Lists
pub mod Change

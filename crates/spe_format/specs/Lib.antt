pub mod Answers
pub mod Canonical
pub mod Layout
pub mod Legal
pub mod Order
pub mod Packed
pub mod Spelling
pub mod View

pub mod Walks
pub mod TakeLemmas
pub mod TableLemmas

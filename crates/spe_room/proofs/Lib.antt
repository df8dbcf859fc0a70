pub mod GivenLemmas
pub mod FoundLemmas
pub mod Walks

pub mod StretchLemmas
pub mod ScriptLemmas
pub mod ReadingLemmas

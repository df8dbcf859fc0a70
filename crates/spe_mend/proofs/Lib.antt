pub mod ChildLemmas
pub mod EvenLemmas
pub mod FilledLemmas
pub mod MendedLemmas
pub mod PairLemmas
pub mod StretchLemmas
pub mod ThinLemmas

mod PassedLemmas
mod ConstraintLemmas
mod ColumnsLemmas
mod DeclarationLemmas
mod TextLemmas
mod NamesLemmas
mod DistinctLemmas
mod TableLemmas
mod ReadingLemmas
mod ReaderLemmas
mod AsksLemmas
pub mod StandingLemmas

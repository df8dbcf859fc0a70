pub mod PassesLemmas
pub mod StoredLemmas
pub mod TextLemmas
pub mod ReadLemmas
pub mod ValueReads
pub mod ReplyReads
pub mod OutcomeReads

pub mod OrderLemmas
pub mod RowsLemmas
pub mod ServedLemmas
pub mod ManyLemmas
pub mod RemovalLemmas

mod Walks
mod SavedLemmas
mod ListLemmas
mod FreeLemmas
pub mod HeldLemmas
pub mod OpenLemmas
pub mod SaveLemmas
pub mod PutLemmas
pub mod UndoLemmas
pub mod ReadLemmas
pub mod ServedLemmas
pub mod LeftLemmas
pub mod EndLemmas
pub mod CommitLemmas
pub mod NewLemmas
pub mod PoolLemmas

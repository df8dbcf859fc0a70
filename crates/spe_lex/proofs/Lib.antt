pub mod QuoteLemmas
pub mod HexLemmas
pub mod UnquotedLemmas
pub mod PieceLemmas
pub mod LexLemmas

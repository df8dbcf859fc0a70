mod BytesLemmas
mod ChecksumLemmas
mod RecordLemmas
mod HeadLemmas
mod PiecesLemmas
mod KindLemmas
mod TextLemmas
mod WrittenLemmas
pub mod HotLemmas

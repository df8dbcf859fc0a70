mod LinkLemmas
mod WriteLemmas
mod FreeLemmas

-- Whether the pages that a header names are there.
use Rattle.std.specs.Prelude.{ℕ, ◌*◌, ◌^◌, ◌&&◌, Bool, nat_le}
use Rattle.spe_model.specs.declared.header.Header.{Header}
use Rattle.spe_model.specs.Header.{is_size_valid}

-- the size in pages counts, and so many pages take at most 2^30 bytes and lie in so many bytes
abbrev pub is_whole : Header → ℕ → Bool
is_whole h size = is_size_valid h && nat_le (h.pages * h.page_size) (2 ^ 30) && nat_le (h.pages * h.page_size) size

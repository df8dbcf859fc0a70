-- Pages as bits of words, 64 in each.
use Rattle.std.specs.Prelude.{ℕ, ◌/◌, ◌%◌, ◌==◌, Bool, List, slice_index}
use Rattle.std.specs.Int.{bit_at}

abbrev pub is_marked : List ℕ → ℕ → Bool
is_marked words page = bit_at (slice_index words (page / 64)) (page % 64) == 1

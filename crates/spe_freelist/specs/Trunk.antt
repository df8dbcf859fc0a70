-- The bytes of a trunk ("The Freelist" in SQLite's Database File Format): the number of the next trunk, how many leaves it
-- has, and the leaves, four bytes each.
use Rattle.std.specs.Prelude.{◌≡◌, ℕ, ◌+◌, ◌-◌, ◌*◌, ◌/◌, List, ◌++◌, map, take, drop, replicate, length}
use Rattle.spe_model.specs.Big.{u32_at}
use Rattle.spe_model.specs.Journal.{numbers_from}

-- so many leaves, as the bytes name them
abbrev pub leaves_at : List ℕ → (count : ℕ) → List ℕ
leaves_at bytes count = map (λ i. u32_at bytes (8 + 4 * i)) (numbers_from 0 count)

-- how many leaves a trunk has at most
abbrev pub most_leaves : (usable : ℕ) → ℕ
most_leaves usable = usable / 4 - 2

-- and how many a page is added to: six fewer, so that older programs read the file too
abbrev pub full_leaves : (usable : ℕ) → ℕ
full_leaves usable = usable / 4 - 8

-- a trunk as it is written: behind its leaves the bytes that the format uses are zeros, and then come reserved ones
pub record IsTrunk (usable next : ℕ) (leaves reserved bytes : List ℕ) : Type 0 where
  pub next_is : u32_at bytes 0 ≡ next
  pub leaves_are : leaves_at bytes (u32_at bytes 4) ≡ leaves
  pub zeros : take (usable - (8 + 4 * length leaves)) (drop (8 + 4 * length leaves) bytes) ≡ replicate (usable - (8 + 4 * length leaves)) 0
  pub reserved_are : drop usable bytes ≡ reserved

-- bytes with zeros from one place up to another
abbrev pub with_zeros : (from to : ℕ) → List ℕ → List ℕ
with_zeros from to bytes = take from bytes ++ (replicate (to - from) 0 ++ drop to bytes)

-- the fifteen pages behind one, the last of them first
abbrev pub fifteen : (page : ℕ) → List ℕ
fifteen page = map (λ i. page + 15 - i) (numbers_from 0 15)

-- Places at which cells are cut.
use Rattle.std.specs.Prelude.{◌≡◌, ℕ, ◌+◌, ◌-◌, ◌<◌, ◌≤◌, List, [], ◌∷◌, ◌++◌, length, take, drop, nat_le, if◌then◌else◌}
use Rattle.spe_model.specs.declared.page.Cell.{Cell}
use Rattle.spe_model.specs.declared.page.Kind.{Kind}
use Rattle.spe_model.specs.declared.page.Kind.TheVariants.{TableLeaf}
use Rattle.spe_format.specs.Canonical.{cell_bytes}
use Rattle.spe_cut.specs.declared.parts.Halves.{Halves}
use Rattle.spe_cut.specs.Parts.{need}

-- how many cells from the front take no more than so many bytes
abbrev pub count_within : Kind → (most : ℕ) → List Cell → ℕ
count_within kind most [] = 0
count_within kind most (c ∷ cs) =
    if nat_le (length (cell_bytes kind c) + 2) most then count_within kind (most - (length (cell_bytes kind c) + 2)) cs + 1 else 0

-- before and behind the place there are cells that take no more than so many bytes
pub record IsCutAt (most : ℕ) (cells : List Cell) (at : ℕ) : Type 0 where
  pub from : 1 ≤ at
  pub to : at < length cells
  pub low : need TableLeaf (take at cells) ≤ most
  pub high : need TableLeaf (drop at cells) ≤ most

-- one part, where there is a cell
abbrev pub part_of : List Cell → List (List Cell)
part_of [] = []
part_of (c ∷ cs) = (c ∷ cs) ∷ []

-- the cells before a place, that at it, and those behind it
abbrev pub parts_at : (place : ℕ) → List Cell → List (List Cell)
parts_at place cells = part_of (take place cells) ++ (part_of (take 1 (drop place cells)) ++ part_of (drop (place + 1) cells))

-- the cells before a place and those behind it, and what stood between them
pub record IsParted (cells : List Cell) (at right : ℕ) (halves : Halves) : Type 0 where
  pub middle : Cell
  pub low : halves.low ≡ take at cells
  pub high : halves.high ≡ drop (at + 1) cells
  pub joined : cells ≡ halves.low ++ (middle ∷ halves.high)
  pub child : halves.low_right ≡ middle.left
  pub key : halves.key ≡ middle.key
  pub last : halves.high_right ≡ right

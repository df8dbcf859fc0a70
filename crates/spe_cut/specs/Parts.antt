-- Cells that are cut over several pages.
use Rattle.std.specs.Prelude.{◌≡◌, ℕ, ℤ, ◌+◌, ◌-◌, ◌*◌, ◌≤◌, List, [], ◌∷◌, ◌++◌, length, take, drop, All}
use Rattle.std.specs.List.{flat_map}
use Rattle.spe_model.specs.declared.page.Cell.{Cell}
use Rattle.spe_model.specs.declared.page.Kind.{Kind}
use Rattle.spe_model.specs.declared.page.Kind.TheVariants.{TableLeaf, TableInterior}
use Rattle.spe_model.specs.declared.page.PageCells.{PageCells}
use Rattle.spe_model.specs.Page.{array_start}
use Rattle.spe_format.specs.Canonical.{AreWritable, IsWritable, cells_length}
use Rattle.spe_cut.specs.Run.{Place, Run, separator, with_child, with_run}

-- how many bytes cells take, with two for the offset of each
abbrev pub need : Kind → List Cell → ℕ
need kind cells = 2 * length cells + cells_length kind cells

-- how many there are for them on a page whose header begins at `at`
abbrev pub room : Kind → (at usable : ℕ) → ℕ
room kind at usable = usable - array_start kind at

-- what a leaf holds, and what an interior page does
abbrev pub leaf_cells : List Cell → PageCells
leaf_cells cells = record { kind = TableLeaf; cells = cells; right = 0 }

abbrev pub run_cells : Run → PageCells
run_cells run = record { kind = TableInterior; cells = run.cells; right = run.right }

-- the cells but the one at a place
abbrev pub without : (place : ℕ) → List Cell → List Cell
without place cells = take place cells ++ drop (place + 1) cells

-- The cells of a leaf in parts: they are the cells, in their order, and each is a leaf that can be written.
pub record AreLeaves (usable : ℕ) (cells : List Cell) (parts : List (List Cell)) : Type 0 where
  pub joined : flat_map (λ (part : List Cell). part) parts ≡ cells
  pub some : All (λ (part : List Cell). 1 ≤ length part) parts
  pub fit : All (λ (part : List Cell). need TableLeaf part ≤ room TableLeaf 0 usable) parts
  pub writable : All (λ (part : List Cell). IsWritable (leaf_cells part) usable) parts
  pub low : 1 ≤ length parts
  pub high : length parts ≤ 3

-- Two runs are the halves of a run: between them stood a cell, whose child is the last of the first and whose key parts them.
pub record IsHalved (usable : ℕ) (run low : Run) (key : ℤ) (high : Run) : Type 0 where
  pub middle : Cell
  pub joined : run.cells ≡ low.cells ++ (middle ∷ high.cells)
  pub key_is : middle.key ≡ key
  pub child : middle.left ≡ low.right
  pub right : run.right ≡ high.right
  pub some : (1 ≤ length low.cells) × (1 ≤ length high.cells)
  pub fit : (need TableInterior low.cells ≤ room TableInterior 0 usable) × (need TableInterior high.cells ≤ room TableInterior 0 usable)
  pub writable : IsWritable (run_cells low) usable × IsWritable (run_cells high) usable

-- an interior cell takes 15 bytes at most, so a run in a child's place takes as many more for each of its cells
abbrev pub RunTakesRoom : Type 0
RunTakesRoom = (usable : ℕ) (place : Place) (child : ℕ) (run : Run)
    → AreWritable TableInterior usable run.cells → AreWritable TableInterior usable (with_child place child).cells
    → need TableInterior (with_run place run).cells ≤ need TableInterior (with_child place child).cells + 15 * length run.cells

-- and it can be written where both can
abbrev pub RunIsWritable : Type 0
RunIsWritable = (usable : ℕ) (place : Place) (child : ℕ) (run : Run)
    → AreWritable TableInterior usable run.cells → AreWritable TableInterior usable (with_child place child).cells
    → AreWritable TableInterior usable (with_run place run).cells

-- a separator can be written
abbrev pub SeparatorIsWritable : Type 0
SeparatorIsWritable = (usable : ℕ) (key : ℤ) (child : ℕ) → AreWritable TableInterior usable (separator key child ∷ [])

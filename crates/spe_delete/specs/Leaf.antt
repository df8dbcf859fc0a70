-- A leaf that loses a row, at a bound `P: Pages`.
use Rattle.std.specs.Prelude.{◌≡◌, ℕ, ℤ, ◌+◌, List, ◌∷◌, ◌++◌, take, drop, Ok, Some}
use Rattle.spe_model.specs.declared.page.Cell.{Cell}
use Rattle.spe_model.specs.Paging.{Paging}
use Rattle.spe_model.specs.Standing.{all_pages}
use Rattle.spe_model.specs.Tree.{IsTree, node_at, row_at, tree_rows}
use Rattle.spe_space.specs.declared.pages.Pages.{Ghosts}
use Rattle.spe_space.specs.Calls.{sight}
use Rattle.spe_frame.specs.Held.{Shifts}
use Rattle.spe_cut.specs.Gone.{without_row}
use Rattle.spe_cut.specs.Parts.{leaf_cells}
use Rattle.spe_insert.specs.Below.{LacksRow}

-- the cells are some before the one at a place, that one, and those behind it
abbrev pub IsAmong : (cells : List Cell) (place : ℕ) (cell : Cell) → Type 0
IsAmong cells place cell = cells ≡ take place cells ++ (cell ∷ drop (place + 1) cells)

-- The tree under a page had the row, and stands there as high as before with all its rows but that one.
pub record LosesRow {P : Type 0} (g : Ghosts P) (old new : P) (pages : Paging) (height low high page : ℕ) (rowid : ℤ) (allocs : ℕ) : Type 0 where
  pub payload : List ℕ
  pub present : row_at rowid (tree_rows (g.used old) (sight g old pages) height page) ≡ Some payload
  pub tree : IsTree (g.used old) (sight g new pages) height low high page
  pub rows : tree_rows (g.used old) (sight g new pages) height page ≡ without_row rowid (tree_rows (g.used old) (sight g old pages) height page)
  pub shifts : Shifts g old new pages (all_pages (g.used old) (sight g old pages) height page)
      (all_pages (g.used old) (sight g new pages) height page) allocs

-- a leaf has lost the row: it has these cells now, and the pages of the row's chain are free
pub record DropsCell {P : Type 0} (g : Ghosts P) (old new : P) (pages : Paging) (height low high page : ℕ) (rowid : ℤ) (cells : List Cell) : Type 0 where
  pub leaf : height ≡ 0
  pub node : node_at (g.used old) (sight g new pages) page ≡ Ok (leaf_cells cells)
  pub loses : LosesRow g old new pages height low high page rowid 0

-- the tree has no row with the rowid, and nothing was changed
pub record IsAbsent {P : Type 0} (g : Ghosts P) (old new : P) (pages : Paging) (height page : ℕ) (rowid : ℤ) : Type 0 where
  pub absent : LacksRow g old pages height page rowid
  pub shifts : Shifts g old new pages (all_pages (g.used old) (sight g old pages) height page)
      (all_pages (g.used old) (sight g old pages) height page) 0

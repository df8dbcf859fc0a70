-- A row that is taken out of the tree below a page, at a bound `P: Pages`.
use Rattle.std.specs.Prelude.{◌≡◌, ℕ, ℤ, []}
use Rattle.spe_model.specs.Paging.{Paging}
use Rattle.spe_model.specs.Served.{HasCells}
use Rattle.spe_model.specs.Tree.{node_cells}
use Rattle.spe_space.specs.declared.pages.Pages.{Ghosts}
use Rattle.spe_space.specs.Calls.{sight}
use Rattle.spe_delete.specs.Leaf.{LosesRow}

-- The tree under a page lost the row, and no interior page is without a cell by it.
pub record TakesRow {P : Type 0} (g : Ghosts P) (old new : P) (pages : Paging) (height low high page : ℕ) (rowid : ℤ) : Type 0 where
  pub loses : LosesRow g old new pages height low high page rowid 0
  pub filled : HasCells (g.used old) (sight g old pages) height page → HasCells (g.used old) (sight g new pages) height page

-- the page is a leaf without a cell
pub record IsBare {P : Type 0} (g : Ghosts P) (old new : P) (pages : Paging) (height page : ℕ) : Type 0 where
  pub leaf : height ≡ 0
  pub empty : node_cells (g.used old) (sight g new pages) page ≡ []

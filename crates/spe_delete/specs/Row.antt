-- A row that is taken out of a table's tree, which stays as high as it was, at a bound `P: Pages`.
use Rattle.std.specs.Prelude.{◌≡◌, ℕ, ℤ, List, Some}
use Rattle.spe_model.specs.Paging.{Paging}
use Rattle.spe_model.specs.Served.{IsGrown}
use Rattle.spe_model.specs.Standing.{Tree, pages_of_tree}
use Rattle.spe_model.specs.Tree.{row_at, tree_rows}
use Rattle.spe_space.specs.declared.pages.Pages.{Ghosts}
use Rattle.spe_space.specs.Calls.{sight}
use Rattle.spe_frame.specs.Held.{Shifts}
use Rattle.spe_cut.specs.Gone.{without_row}
use Rattle.spe_insert.specs.Insert.{marked_root}

-- The tree had the row, and has all its rows but that one. It is as high as before, and each interior page has a cell.
pub record Taken {P : Type 0} (g : Ghosts P) (old new : P) (pages : Paging) (root : ℕ) (tree : Tree) (rowid : ℤ) : Type 0 where
  pub payload : List ℕ
  pub present : row_at rowid (tree_rows (g.used old) (sight g old pages) tree.height tree.root) ≡ Some payload
  pub grown : IsGrown (g.used new) (sight g new pages) (marked_root root) tree
  pub rows : tree_rows (g.used new) (sight g new pages) tree.height tree.root
      ≡ without_row rowid (tree_rows (g.used old) (sight g old pages) tree.height tree.root)
  pub shifts : Shifts g old new pages (pages_of_tree (g.used old) (sight g old pages) tree)
      (pages_of_tree (g.used new) (sight g new pages) tree) 0

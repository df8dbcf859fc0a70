-- A row that is taken out of the tree of a table, at a bound `P: Pages`.
use Rattle.std.specs.Prelude.{◌≡◌, ◌≢◌, ℕ, ℤ, ◌≤◌, List, length, true, Some}
use Rattle.spe_model.specs.declared.page.Kind.TheVariants.{TableLeaf}
use Rattle.spe_model.specs.Paging.{Paging}
use Rattle.spe_model.specs.Served.{IsGrown}
use Rattle.spe_model.specs.Standing.{Tree, pages_of_tree}
use Rattle.spe_model.specs.Tree.{node_cells, row_at, tree_pages, tree_rows}
use Rattle.spe_space.specs.declared.pages.Pages.{Ghosts}
use Rattle.spe_space.specs.Calls.{sight}
use Rattle.spe_frame.specs.Held.{Shifts}
use Rattle.spe_frame.specs.Times.{HoldsOf}
use Rattle.spe_cut.specs.Gone.{without_row}
use Rattle.spe_cut.specs.Joined.{cells_under}
use Rattle.spe_cut.specs.Parts.{need, room}
use Rattle.spe_insert.specs.Below.{LacksRow}
use Rattle.spe_insert.specs.Insert.{marked_root, most_pages}

-- a page that was put has a cell
abbrev pub HasCellIfPut : {P : Type 0} (g : Ghosts P) (old new : P) → Paging → ℕ → Type 0
HasCellIfPut g old new pages n = g.laid new n ≢ g.laid old n → 1 ≤ length (node_cells (g.used new) (sight g new pages) n)

-- The root has a tree of the same rows but the one of the rowid, which was there. Each interior page has a cell, and so has
-- each leaf that was put, but the root; and where the rows fit the root, the root is all of the tree.
pub record Removed {P : Type 0} (g : Ghosts P) (old new : P) (pages : Paging) (root : ℕ) (tree : Tree) (rowid : ℤ) : Type 0 where
  pub payload : List ℕ
  pub present : row_at rowid (tree_rows (g.used old) (sight g old pages) tree.height tree.root) ≡ Some payload
  pub other : Tree
  pub sort : other.table ≡ true
  pub grown : IsGrown (g.used new) (sight g new pages) (marked_root root) other
  pub rows : tree_rows (g.used new) (sight g new pages) other.height other.root
      ≡ without_row rowid (tree_rows (g.used old) (sight g old pages) tree.height tree.root)
  pub filled : HoldsOf (λ n. n ≢ root → HasCellIfPut g old new pages n) (tree_pages (g.used new) (sight g new pages) other.height other.root)
  pub alone : need TableLeaf (cells_under (g.used new) (sight g new pages) other.height other.root) ≤ room TableLeaf 0 (g.used new) → other.height ≡ 0
  pub shifts : Shifts g old new pages (pages_of_tree (g.used old) (sight g old pages) tree)
      (pages_of_tree (g.used new) (sight g new pages) other) (most_pages (g.used old) 0)

-- the tree has no row with the rowid, and nothing was changed
pub record Missing {P : Type 0} (g : Ghosts P) (old new : P) (pages : Paging) (tree : Tree) (rowid : ℤ) : Type 0 where
  pub absent : LacksRow g old pages tree.height tree.root rowid
  pub shifts : Shifts g old new pages (pages_of_tree (g.used old) (sight g old pages) tree)
      (pages_of_tree (g.used old) (sight g old pages) tree) 0

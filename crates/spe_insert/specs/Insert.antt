-- A row that is put into the tree of a table, at a bound `P: Pages`.
use Rattle.std.specs.Prelude.{◌≡◌, ℕ, ℤ, ◌+◌, ◌*◌, ◌^◌, ◌≤◌, List, length, is_some, true, Some}
use Rattle.spe_model.specs.Chain.{links}
use Rattle.spe_model.specs.Paging.{Agrees, Paging}
use Rattle.spe_model.specs.Served.{IsGrown, Root}
use Rattle.spe_model.specs.Standing.{Tree, pages_of_tree}
use Rattle.spe_model.specs.Tree.{row_at, tree_rows}
use Rattle.spe_space.specs.declared.pages.Pages.{Ghosts}
use Rattle.spe_space.specs.Calls.{sight}
use Rattle.spe_space.specs.Front.{number_in}
use Rattle.spe_frame.specs.Held.{AreHeld, IsReady, Shifts}
use Rattle.spe_frame.specs.Times.{Lacks}
use Rattle.spe_cut.specs.Changed.{with_payload}
use Rattle.spe_cut.specs.Rows.{with_row}
use Rattle.spe_insert.specs.Below.{LacksRow}
use Rattle.spe_insert.specs.Edit.{Edit, IsBefore, edited, size_of}

-- a root whose tree has a cell on each interior page
abbrev pub marked_root : (page : ℕ) → Root
marked_root page = record { page = page; marked = true }

-- how many pages an insertion hands out at most
abbrev pub most_pages : (usable size : ℕ) → ℕ
most_pages usable size = 128 + links usable size

-- The root has a table's tree with a cell on each interior page; its pages are held, page 1 is none of them, and all pages
-- are at most as many as the largest file has.
pub record IsOwn {P : Type 0} (g : Ghosts P) (s : P) (pages : Paging) (root : ℕ) (tree : Tree) : Type 0 where
  pub ready : IsReady g s pages
  pub sort : tree.table ≡ true
  pub grown : IsGrown (g.used s) (sight g s pages) (marked_root root) tree
  pub held : AreHeld g s pages (pages_of_tree (g.used s) (sight g s pages) tree)
  pub later : Lacks (pages_of_tree (g.used s) (sight g s pages) tree) 1
  pub few : number_in (sight g s pages) * 512 ≤ 2 ^ 30

-- whatever the pages are below the space, as long as they agree with what was given and the root has such a tree
abbrev pub WhereOwn : {P : Type 0} (g : Ghosts P) (old new : P) (root : ℕ) → (Paging → Tree → Type 0) → Type 0
WhereOwn g old new root What = (pages : Paging) (tree : Tree) → Agrees pages (g.seen new) → IsOwn g old pages root tree → What pages tree

-- the root has a tree of the same rows and the new one, which was not there
pub record Added {P : Type 0} (g : Ghosts P) (old new : P) (pages : Paging) (root : ℕ) (tree : Tree) (rowid : ℤ) (payload : List ℕ) : Type 0 where
  pub absent : LacksRow g old pages tree.height tree.root rowid
  pub other : Tree
  pub sort : other.table ≡ true
  pub grown : IsGrown (g.used new) (sight g new pages) (marked_root root) other
  pub rows : tree_rows (g.used new) (sight g new pages) other.height other.root
      ≡ with_row rowid payload (tree_rows (g.used old) (sight g old pages) tree.height tree.root)
  pub shifts : Shifts g old new pages (pages_of_tree (g.used old) (sight g old pages) tree)
      (pages_of_tree (g.used new) (sight g new pages) other) (most_pages (g.used old) (length payload))

-- the tree has a row with the rowid, and nothing was changed
pub record Present {P : Type 0} (g : Ghosts P) (old new : P) (pages : Paging) (tree : Tree) (rowid : ℤ) : Type 0 where
  pub payload : List ℕ
  pub row : row_at rowid (tree_rows (g.used old) (sight g old pages) tree.height tree.root) ≡ Some payload
  pub shifts : Shifts g old new pages (pages_of_tree (g.used old) (sight g old pages) tree)
      (pages_of_tree (g.used old) (sight g old pages) tree) 0

-- the root has a tree of the same rowids, in which the row that was there has another payload
pub record Replaced {P : Type 0} (g : Ghosts P) (old new : P) (pages : Paging) (root : ℕ) (tree : Tree) (rowid : ℤ) (payload : List ℕ) : Type 0 where
  pub present : is_some (row_at rowid (tree_rows (g.used old) (sight g old pages) tree.height tree.root)) ≡ true
  pub other : Tree
  pub sort : other.table ≡ true
  pub grown : IsGrown (g.used new) (sight g new pages) (marked_root root) other
  pub rows : tree_rows (g.used new) (sight g new pages) other.height other.root
      ≡ with_payload rowid payload (tree_rows (g.used old) (sight g old pages) tree.height tree.root)
  pub shifts : Shifts g old new pages (pages_of_tree (g.used old) (sight g old pages) tree)
      (pages_of_tree (g.used new) (sight g new pages) other) (most_pages (g.used old) (length payload))

-- the tree has no row with the rowid, and nothing was changed
pub record Unmatched {P : Type 0} (g : Ghosts P) (old new : P) (pages : Paging) (tree : Tree) (rowid : ℤ) : Type 0 where
  pub absent : LacksRow g old pages tree.height tree.root rowid
  pub shifts : Shifts g old new pages (pages_of_tree (g.used old) (sight g old pages) tree)
      (pages_of_tree (g.used old) (sight g old pages) tree) 0

-- the root has a tree of these rows as they are edited
pub record Edited {P : Type 0} (g : Ghosts P) (old new : P) (pages : Paging) (root : ℕ) (tree : Tree) (rowid : ℤ) (edit : Edit) : Type 0 where
  pub before : IsBefore edit (row_at rowid (tree_rows (g.used old) (sight g old pages) tree.height tree.root))
  pub other : Tree
  pub sort : other.table ≡ true
  pub grown : IsGrown (g.used new) (sight g new pages) (marked_root root) other
  pub rows : tree_rows (g.used new) (sight g new pages) other.height other.root
      ≡ edited edit rowid (tree_rows (g.used old) (sight g old pages) tree.height tree.root)
  pub shifts : Shifts g old new pages (pages_of_tree (g.used old) (sight g old pages) tree)
      (pages_of_tree (g.used new) (sight g new pages) other) (most_pages (g.used old) (size_of edit))

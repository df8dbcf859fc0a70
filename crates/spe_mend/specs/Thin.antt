-- A page that has one child left and no cell, at a bound `P: Pages`.
use Rattle.std.specs.Prelude.{◌≡◌, ◌≢◌, ℕ, ℤ, length}
use Rattle.spe_model.specs.Paging.{Paging}
use Rattle.spe_model.specs.Standing.{all_pages}
use Rattle.spe_model.specs.Tree.{IsTree, node_cells, node_right, tree_rows}
use Rattle.spe_space.specs.declared.pages.Pages.{Ghosts}
use Rattle.spe_space.specs.Calls.{sight}
use Rattle.spe_frame.specs.Held.{Shifts}
use Rattle.spe_cut.specs.Run.{HoldsRun, Run, alone}
use Rattle.spe_delete.specs.Child.{fewer_of}

-- what an interior page has as its children
abbrev pub children_in : {P : Type 0} (g : Ghosts P) (s : P) → Paging → (page : ℕ) → Run
children_in g s pages page = record {
  cells = node_cells (g.used s) (sight g s pages) page;
  right = node_right (g.used s) (sight g s pages) page;
}

-- The page has one child, the one of two in which the rowid does not belong, and that was not put. The other is free, so the
-- tree has the same rows.
pub record BecomesThin {P : Type 0} (g : Ghosts P) (old new : P) (pages : Paging) (height low high page child : ℕ) (rowid : ℤ) : Type 0 where
  pub was : fewer_of rowid (children_in g old pages page) ≡ alone child
  pub holds : HoldsRun (g.used old) (sight g new pages) page (alone child)
  pub tree : IsTree (g.used old) (sight g new pages) height low high page
  pub rows : tree_rows (g.used old) (sight g new pages) height page ≡ tree_rows (g.used old) (sight g old pages) height page
  pub kept : sight g new pages child ≡ sight g old pages child
  pub shifts : Shifts g old new pages (all_pages (g.used old) (sight g old pages) height page)
      (all_pages (g.used old) (sight g new pages) height page) 0

-- the page has another number of cells than one, and nothing was changed
pub record HasOtherCells {P : Type 0} (g : Ghosts P) (old new : P) (pages : Paging) (height page : ℕ) : Type 0 where
  pub other : length (node_cells (g.used old) (sight g old pages) page) ≢ 1
  pub shifts : Shifts g old new pages (all_pages (g.used old) (sight g old pages) height page)
      (all_pages (g.used old) (sight g old pages) height page) 0

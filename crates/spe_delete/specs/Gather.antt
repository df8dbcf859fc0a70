-- A tree that is gathered into its root, at a bound `P: Pages`.
use Rattle.std.specs.Prelude.{◌≡◌, ℕ, ◌≤◌, List, [], ◌∷◌, length, Ok}
use Rattle.spe_model.specs.declared.page.PageCells.{PageCells}
use Rattle.spe_model.specs.Paging.{Paging}
use Rattle.spe_model.specs.Standing.{all_pages}
use Rattle.spe_model.specs.Tree.{IsTree, node_at, tree_pages, tree_rows}
use Rattle.spe_space.specs.declared.pages.Pages.{Ghosts}
use Rattle.spe_space.specs.Calls.{sight}
use Rattle.spe_frame.specs.Held.{AreHeld, Shifts}
use Rattle.spe_frame.specs.Times.{AreSame, HoldsOf, Lacks}
use Rattle.spe_cut.specs.Joined.{cells_under}
use Rattle.spe_cut.specs.Parts.{leaf_cells}

-- A tree under the root, whose pages are held, page 1 not among them. These are the cells of its leaves, and these its pages
-- but the root and the overflow pages, none of which is short.
pub record HasLeaves {P : Type 0} (g : Ghosts P) (s : P) (pages : Paging) (height low high root : ℕ) (others : List ℕ) (cells : PageCells) : Type 0 where
  pub tree : IsTree (g.used s) (sight g s pages) height low high root
  pub held : AreHeld g s pages (all_pages (g.used s) (sight g s pages) height root)
  pub later : Lacks (all_pages (g.used s) (sight g s pages) height root) 1
  pub cells_are : cells ≡ leaf_cells (cells_under (g.used s) (sight g s pages) height root)
  pub others_are : AreSame (tree_pages (g.used s) (sight g s pages) height root) (root ∷ others)
  pub whole : HoldsOf (λ n. g.used s ≤ length (sight g s pages n)) (tree_pages (g.used s) (sight g s pages) height root)

-- the root is a leaf with the same rows, and all other pages of the tree are free, but for those of its chains
pub record IsAlone {P : Type 0} (g : Ghosts P) (old new : P) (pages : Paging) (height low high root : ℕ) : Type 0 where
  pub tree : IsTree (g.used old) (sight g new pages) 0 low high root
  pub rows : tree_rows (g.used old) (sight g new pages) 0 root ≡ tree_rows (g.used old) (sight g old pages) height root
  pub shifts : Shifts g old new pages (all_pages (g.used old) (sight g old pages) height root)
      (all_pages (g.used old) (sight g new pages) 0 root) 0

-- the root has these cells, and the other pages are free; so of a tree whose leaves had the cells
pub record Gathers {P : Type 0} (g : Ghosts P) (old new : P) (pages : Paging) (root : ℕ) (others : List ℕ) (cells : PageCells) : Type 0 where
  pub node : node_at (g.used old) (sight g new pages) root ≡ Ok cells
  pub shifts : Shifts g old new pages (root ∷ others) (root ∷ []) 0
  pub alone : (height low high : ℕ) → HasLeaves g old pages height low high root others cells → IsAlone g old new pages height low high root

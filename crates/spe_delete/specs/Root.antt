-- A root that gets a level less, at a bound `P: Pages`.
use Rattle.std.specs.Prelude.{◌≡◌, ℕ, suc, [], ◌∷◌}
use Rattle.spe_model.specs.Paging.{Paging}
use Rattle.spe_model.specs.Served.{HasCells}
use Rattle.spe_model.specs.Standing.{all_pages}
use Rattle.spe_model.specs.Tree.{IsTree, tree_rows}
use Rattle.spe_space.specs.declared.pages.Pages.{Ghosts}
use Rattle.spe_space.specs.Calls.{sight}
use Rattle.spe_frame.specs.Held.{AreHeld, Shifts}
use Rattle.spe_frame.specs.Times.{Lacks}
use Rattle.spe_cut.specs.Run.{HoldsRun, alone}

-- a tree under the root, which has one child, and whose pages are held, page 1 not among them
pub record HasOnlyChild {P : Type 0} (g : Ghosts P) (s : P) (pages : Paging) (height low high root child : ℕ) : Type 0 where
  pub tree : IsTree (g.used s) (sight g s pages) (suc height) low high root
  pub holds : HoldsRun (g.used s) (sight g s pages) root (alone child)
  pub held : AreHeld g s pages (all_pages (g.used s) (sight g s pages) (suc height) root)
  pub later : Lacks (all_pages (g.used s) (sight g s pages) (suc height) root) 1

-- the root has the child's tree: the same rows, one level lower, and the child's page is free
pub record IsLower {P : Type 0} (g : Ghosts P) (old new : P) (pages : Paging) (height low high root child : ℕ) : Type 0 where
  pub tree : IsTree (g.used old) (sight g new pages) height low high root
  pub rows : tree_rows (g.used old) (sight g new pages) height root ≡ tree_rows (g.used old) (sight g old pages) (suc height) root
  pub filled : HasCells (g.used old) (sight g old pages) height child → HasCells (g.used old) (sight g new pages) height root
  pub shifts : Shifts g old new pages (all_pages (g.used old) (sight g old pages) (suc height) root)
      (all_pages (g.used old) (sight g new pages) height root) 0

-- the root has the child's bytes, and the child is free; so of a tree whose root has no other child
pub record Lowers {P : Type 0} (g : Ghosts P) (old new : P) (pages : Paging) (root child : ℕ) : Type 0 where
  pub same : sight g new pages root ≡ sight g old pages child
  pub shifts : Shifts g old new pages (child ∷ root ∷ []) (root ∷ []) 0
  pub lower : (height low high : ℕ) → HasOnlyChild g old pages height low high root child → IsLower g old new pages height low high root child

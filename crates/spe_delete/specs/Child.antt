-- A child that goes from its page, at a bound `P: Pages`.
use Rattle.std.specs.Prelude.{◌≡◌, ℕ, ℤ, ◌≤◌, List, [], ◌∷◌, length, nat_le, if◌then◌else◌}
use Rattle.spe_model.specs.declared.page.Cell.{Cell}
use Rattle.spe_model.specs.Paging.{Paging}
use Rattle.spe_model.specs.Served.{HasCells}
use Rattle.spe_model.specs.Standing.{all_pages}
use Rattle.spe_model.specs.Tree.{IsTree, child_for, node_cells, node_right, rank, tree_rows}
use Rattle.spe_space.specs.declared.pages.Pages.{Ghosts}
use Rattle.spe_space.specs.Calls.{sight}
use Rattle.spe_frame.specs.Held.{Shifts}
use Rattle.spe_cut.specs.Run.{HoldsRun, Run}
use Rattle.spe_insert.specs.Run.{with_first}

abbrev run_with : List Cell → ℕ → Run
run_with cells right = record { cells = cells; right = right }

-- The children without the one in which a rowid of this rank belongs. Where it is the last, the one before it is the last
-- then.
abbrev pub fewer : (key : ℕ) → List Cell → (right : ℕ) → Run
fewer key [] right = run_with [] right
fewer key (c ∷ []) right = if nat_le key (rank c.key) then run_with [] right else run_with [] c.left
fewer key (c ∷ d ∷ ds) right = if nat_le key (rank c.key) then run_with (d ∷ ds) right else with_first c (fewer key (d ∷ ds) right)

abbrev pub fewer_of : (rowid : ℤ) → Run → Run
fewer_of rowid run = fewer (rank rowid) run.cells run.right

-- a page one level above the leaves, and the child in which a rowid belongs, which has no cell
pub record HasEmptyLeaf {P : Type 0} (g : Ghosts P) (s : P) (pages : Paging) (height page child : ℕ) (rowid : ℤ) : Type 0 where
  pub level : height ≡ 1
  pub leads : child_for (rank rowid) (node_cells (g.used s) (sight g s pages) page) (node_right (g.used s) (sight g s pages) page) ≡ child
  pub empty : node_cells (g.used s) (sight g s pages) child ≡ []

-- The page has all other children now, and the leaf is free: so the tree has the same rows.
pub record DropsChild {P : Type 0} (g : Ghosts P) (old new : P) (pages : Paging) (height low high page : ℕ) (run : Run) : Type 0 where
  pub holds : HoldsRun (g.used old) (sight g new pages) page run
  pub tree : IsTree (g.used old) (sight g new pages) height low high page
  pub rows : tree_rows (g.used old) (sight g new pages) height page ≡ tree_rows (g.used old) (sight g old pages) height page
  pub some : 1 ≤ length run.cells
  pub filled : HasCells (g.used old) (sight g old pages) height page → HasCells (g.used old) (sight g new pages) height page
  pub shifts : Shifts g old new pages (all_pages (g.used old) (sight g old pages) height page)
      (all_pages (g.used old) (sight g new pages) height page) 0

-- The page has two children at most, and nothing was changed.
pub record KeepsLeaf {P : Type 0} (g : Ghosts P) (old new : P) (pages : Paging) (height page : ℕ) : Type 0 where
  pub few : length (node_cells (g.used old) (sight g old pages) page) ≤ 1
  pub shifts : Shifts g old new pages (all_pages (g.used old) (sight g old pages) height page)
      (all_pages (g.used old) (sight g old pages) height page) 0

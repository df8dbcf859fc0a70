-- The leaves of a tree, gathered on a walk, at a bound `P: Pages`.
use Rattle.std.specs.Prelude.{◌≡◌, ℕ, ◌+◌, ◌<◌, ◌≤◌, List, ◌++◌, length}
use Rattle.spe_model.specs.declared.page.Cell.{Cell}
use Rattle.spe_model.specs.declared.page.Kind.TheVariants.{TableLeaf}
use Rattle.spe_model.specs.Paging.{Agrees, Paging}
use Rattle.spe_model.specs.Standing.{all_pages}
use Rattle.spe_model.specs.Tree.{IsTree, tree_pages}
use Rattle.spe_format.specs.Canonical.{AreWritable}
use Rattle.spe_space.specs.declared.pages.Pages.{Ghosts}
use Rattle.spe_space.specs.Calls.{sight}
use Rattle.spe_frame.specs.Held.{AreHeld, IsReady, Shifts}
use Rattle.spe_frame.specs.Times.{HoldsOf, Lacks}
use Rattle.spe_cut.specs.Joined.{cells_below, cells_under, nodes_in}
use Rattle.spe_cut.specs.Parts.{need, room}
use Rattle.spe_cut.specs.Run.{IsRun, Run, pages_in}
use Rattle.spe_delete.specs.declared.leaves.Leaves.{Leaves}

-- a tree whose pages are held, page 1 not among them
pub record IsHeldTree {P : Type 0} (g : Ghosts P) (s : P) (pages : Paging) (height low high page : ℕ) : Type 0 where
  pub ready : IsReady g s pages
  pub tree : IsTree (g.used s) (sight g s pages) height low high page
  pub held : AreHeld g s pages (all_pages (g.used s) (sight g s pages) height page)
  pub later : Lacks (all_pages (g.used s) (sight g s pages) height page) 1

-- whatever the pages are below the space, as long as they agree with what was given and such a tree of fewer than so many
-- levels stands there
abbrev pub WhereHeldTree : {P : Type 0} (g : Ghosts P) (old new : P) (levels page : ℕ) → (Paging → (height low high : ℕ) → Type 0) → Type 0
WhereHeldTree g old new levels page What =
    (pages : Paging) (height low high : ℕ) → Agrees pages (g.seen new) → height < levels → IsHeldTree g old pages height low high page → What pages height low high

abbrev pub run_with : List Cell → (right : ℕ) → Run
run_with cells right = record { cells = cells; right = right }

-- a run whose pages are held, page 1 not among them
pub record IsHeldRun {P : Type 0} (g : Ghosts P) (s : P) (pages : Paging) (height low high : ℕ) (run : Run) : Type 0 where
  pub ready : IsReady g s pages
  pub is : IsRun (g.used s) (sight g s pages) height low high run
  pub held : AreHeld g s pages (pages_in (g.used s) (sight g s pages) height run)
  pub later : Lacks (pages_in (g.used s) (sight g s pages) height run) 1

abbrev pub WhereHeldRun : {P : Type 0} (g : Ghosts P) (old new : P) (levels : ℕ) → Run → (Paging → (height : ℕ) → Type 0) → Type 0
WhereHeldRun g old new levels run What =
    (pages : Paging) (height low high : ℕ) → Agrees pages (g.seen new) → height < levels → IsHeldRun g old pages height low high run → What pages height

-- these cells and pages came behind what was there, and took so many bytes
pub record Gains (old new : Leaves) (cells : List Cell) (nodes : List ℕ) : Type 0 where
  pub cells_are : new.cells.items ≡ old.cells.items ++ cells
  pub pages_are : new.pages.items ≡ old.pages.items ++ nodes
  pub left_is : new.left + need TableLeaf cells ≡ old.left

-- what was gathered can be written as before, and the bytes that are left were counted
pub record StaysSound (usable : ℕ) (old new : Leaves) : Type 0 where
  pub writable : AreWritable TableLeaf usable old.cells.items → AreWritable TableLeaf usable new.cells.items
  pub counted : new.left + need TableLeaf new.cells.items ≡ old.left + need TableLeaf old.cells.items

-- no page is shorter than its usable bytes
abbrev pub AreWhole : {P : Type 0} (g : Ghosts P) (s : P) → Paging → List ℕ → Type 0
AreWhole g s pages nodes = HoldsOf (λ n. g.used s ≤ length (sight g s pages n)) nodes

-- all leaves of a tree, and all its pages but those of chains, none of which is short
pub record GathersTree {P : Type 0} (g : Ghosts P) (s : P) (pages : Paging) (height page : ℕ) (old new : Leaves) : Type 0 where
  pub gains : Gains old new (cells_under (g.used s) (sight g s pages) height page) (tree_pages (g.used s) (sight g s pages) height page)
  pub whole : AreWhole g s pages (tree_pages (g.used s) (sight g s pages) height page)

-- and so of a run
pub record GathersRun {P : Type 0} (g : Ghosts P) (s : P) (pages : Paging) (height : ℕ) (run : Run) (old new : Leaves) : Type 0 where
  pub gains : Gains old new (cells_below (g.used s) (sight g s pages) height run) (nodes_in (g.used s) (sight g s pages) height run)
  pub whole : AreWhole g s pages (nodes_in (g.used s) (sight g s pages) height run)

-- gets changed nothing of a tree
abbrev pub SeesTree : {P : Type 0} (g : Ghosts P) (old new : P) → Paging → (height page : ℕ) → Type 0
SeesTree g old new pages height page =
    Shifts g old new pages (all_pages (g.used old) (sight g old pages) height page) (all_pages (g.used old) (sight g old pages) height page) 0

abbrev pub SeesRun : {P : Type 0} (g : Ghosts P) (old new : P) → Paging → (height : ℕ) → Run → Type 0
SeesRun g old new pages height run =
    Shifts g old new pages (pages_in (g.used old) (sight g old pages) height run) (pages_in (g.used old) (sight g old pages) height run) 0

-- the tree is a leaf, or its rows don't fit one
pub record StaysWide {P : Type 0} (g : Ghosts P) (old new : P) (pages : Paging) (height page : ℕ) : Type 0 where
  pub alone : need TableLeaf (cells_under (g.used old) (sight g old pages) height page) ≤ room TableLeaf 0 (g.used old) → height ≡ 0
  pub shifts : SeesTree g old new pages height page

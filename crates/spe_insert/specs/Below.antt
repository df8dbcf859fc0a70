-- A row that is put into the tree below a page, at a bound `P: Pages`.
use Rattle.std.specs.Prelude.{◌≡◌, ℕ, ℤ, ◌+◌, ◌*◌, ◌^◌, ◌<◌, ◌≤◌, List, [], ◌∷◌, length, None, Some}
use Rattle.spe_model.specs.declared.page.Cell.{Cell}
use Rattle.spe_model.specs.declared.page.Kind.TheVariants.{TableInterior}
use Rattle.spe_model.specs.Chain.{links}
use Rattle.spe_model.specs.Paging.{Agrees, Paging}
use Rattle.spe_model.specs.Served.{HasCells}
use Rattle.spe_model.specs.Standing.{all_pages}
use Rattle.spe_model.specs.Tree.{IsTree, rank, row_at, tree_rows}
use Rattle.spe_format.specs.Canonical.{AreWritable}
use Rattle.spe_space.specs.declared.pages.Pages.{Ghosts}
use Rattle.spe_space.specs.Calls.{sight}
use Rattle.spe_space.specs.Front.{number_in}
use Rattle.spe_frame.specs.Held.{AreHeld, IsReady, Shifts}
use Rattle.spe_frame.specs.Times.{Lacks}
use Rattle.spe_cut.specs.Run.{AreFilledBelow, IsOpen, IsRun, Run, pages_in, rows_in}
use Rattle.spe_insert.specs.Edit.{Edit, IsBefore, edited, size_of}

-- how many pages such a call may hand out: a chain for the payload, two more leaves, and a page a level
abbrev pub pages_for : (usable height size : ℕ) → ℕ
pages_for usable height size = links usable size + (3 + height)

-- the first child of a run
abbrev pub first_of : List Cell → (right : ℕ) → ℕ
first_of [] right = right
first_of (c ∷ cs) right = c.left

abbrev pub first_child : Run → ℕ
first_child run = first_of run.cells run.right

-- a run of three pages at most, whose cells can be written
pub record IsShort (usable : ℕ) (run : Run) : Type 0 where
  pub few : length run.cells ≤ 2
  pub writable : AreWritable TableInterior usable run.cells

-- these are the bytes of the page
abbrev pub IsPage : {P : Type 0} (g : Ghosts P) (s : P) → Paging → (page : ℕ) → List ℕ → Type 0
IsPage g s pages page bytes = bytes ≡ sight g s pages page

-- a tree stands under the page, its pages are held and page 1 is none of them, and the rowid lies between its bounds
pub record IsPlaceFor {P : Type 0} (g : Ghosts P) (s : P) (pages : Paging) (height low high page : ℕ) (rowid : ℤ) : Type 0 where
  pub ready : IsReady g s pages
  pub tree : IsTree (g.used s) (sight g s pages) height low high page
  pub held : AreHeld g s pages (all_pages (g.used s) (sight g s pages) height page)
  pub later : Lacks (all_pages (g.used s) (sight g s pages) height page) 1
  pub from : low ≤ rank rowid
  pub to : rank rowid < high

-- whatever the pages are below the space, as long as they agree with what was given and such a tree of fewer than so many
-- levels stands there
abbrev pub WhereTree : {P : Type 0} (g : Ghosts P) (old new : P) (levels page : ℕ) (rowid : ℤ) → (Paging → (height low high : ℕ) → Type 0) → Type 0
WhereTree g old new levels page rowid What =
    (pages : Paging) (height low high : ℕ) → Agrees pages (g.seen new) → height < levels
    → IsPlaceFor g old pages height low high page rowid → What pages height low high

-- the tree has no row with the rowid
abbrev pub LacksRow : {P : Type 0} (g : Ghosts P) (s : P) → Paging → (height page : ℕ) → ℤ → Type 0
LacksRow g s pages height page rowid = row_at rowid (tree_rows (g.used s) (sight g s pages) height page) ≡ None

-- The tree has become a run of trees as high, which begins with its page: they have its rows as they are edited. A run of
-- several trees is low enough to stand below a root of its own.
pub record Becomes {P : Type 0} (g : Ghosts P) (old new : P) (pages : Paging) (height low high page : ℕ) (rowid : ℤ) (edit : Edit) (run : Run) : Type 0 where
  pub before : IsBefore edit (row_at rowid (tree_rows (g.used old) (sight g old pages) height page))
  pub is : IsRun (g.used old) (sight g new pages) height low high run
  pub last : IsOpen low high run
  pub first : first_child run ≡ page
  pub filled : HasCells (g.used old) (sight g old pages) height page → AreFilledBelow (g.used old) (sight g new pages) height run
  pub below : HasCells (g.used old) (sight g old pages) height page → 1 ≤ length run.cells
      → number_in (sight g old pages) * 512 ≤ 2 ^ 30 → height + 1 < 20
  pub rows : rows_in (g.used old) (sight g new pages) height run ≡ edited edit rowid (tree_rows (g.used old) (sight g old pages) height page)
  pub shifts : Shifts g old new pages (all_pages (g.used old) (sight g old pages) height page)
      (pages_in (g.used old) (sight g new pages) height run) (pages_for (g.used old) height (size_of edit))

-- The tree has a row with the rowid, and nothing was changed.
pub record IsThere {P : Type 0} (g : Ghosts P) (old new : P) (pages : Paging) (height page : ℕ) (rowid : ℤ) : Type 0 where
  pub payload : List ℕ
  pub row : row_at rowid (tree_rows (g.used old) (sight g old pages) height page) ≡ Some payload
  pub shifts : Shifts g old new pages (all_pages (g.used old) (sight g old pages) height page)
      (all_pages (g.used old) (sight g old pages) height page) 0

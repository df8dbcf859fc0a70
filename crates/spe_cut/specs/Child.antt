-- A child of an interior page, and what becomes of all children where it became a run.
use Rattle.std.specs.Prelude.{◌≡◌, ℕ, ℤ, ◌<◌, ◌≤◌, ◌++◌, All}
use Rattle.spe_model.specs.declared.page.Cell.{Cell}
use Rattle.spe_model.specs.Paging.{Paging}
use Rattle.spe_model.specs.Served.{HasCells}
use Rattle.spe_model.specs.Standing.{all_pages}
use Rattle.spe_model.specs.Tree.{IsTree, rank, row_at, tree_rows}
use Rattle.spe_frame.specs.Times.{AreSame}
use Rattle.spe_cut.specs.Run.{AreFilledBelow, AreKept, IsOpen, IsRun, Place, Run, cells_before, high_at, low_at, pages_beside, pages_in, rows_in, with_child, with_run}
use Rattle.spe_cut.specs.Rows.{RowsBecome}

-- A child at a place is a tree between the bounds there, beside all others.
pub record IsChild (usable : ℕ) (pages : Paging) (height low high : ℕ) (place : Place) (child : ℕ) : Type 0 where
  pub tree : IsTree usable pages height (low_at low place) (high_at high place) child
  pub above : low ≤ low_at low place
  pub below : high_at high place ≤ high
  pub filled : AreFilledBelow usable pages height (with_child place child) → HasCells usable pages height child
  pub pages_are : AreSame (pages_in usable pages height (with_child place child)) (all_pages usable pages height child ++ pages_beside usable pages height place)

abbrev pub ChildOfRun : Type 0
ChildOfRun = (usable : ℕ) (pages : Paging) (height low high : ℕ) (place : Place) (child : ℕ)
    → IsRun usable pages height low high (with_child place child) → IsChild usable pages height low high place child

-- it has the row of a rowid between these bounds
abbrev pub RowOfChild : Type 0
RowOfChild = (usable : ℕ) (pages : Paging) (height low high : ℕ) (place : Place) (child : ℕ) (rowid : ℤ)
    → IsRun usable pages height low high (with_child place child) → low_at low place ≤ rank rowid → rank rowid < high_at high place
    → row_at rowid (rows_in usable pages height (with_child place child)) ≡ row_at rowid (tree_rows usable pages height child)

-- what is above the keys before the place is above the bound there
abbrev pub AboveCells : Type 0
AboveCells = (low key : ℕ) (place : Place) → low ≤ key → All (λ (d : Cell). rank d.key < key) (cells_before place) → low_at low place ≤ key

-- The child at a place became a run between the bounds there, whose last child may have a rowid, and the pages of all
-- others keep their bytes.
pub record ChildGrows (usable : ℕ) (old new : Paging) (height low high : ℕ) (place : Place) (child : ℕ) (run : Run) : Type 0 where
  pub was : IsRun usable old height low high (with_child place child)
  pub grown : IsRun usable new height (low_at low place) (high_at high place) run
  pub last : IsOpen (low_at low place) (high_at high place) run
  pub others : AreKept old new (pages_beside usable old height place)

-- Then all children, with the run in the child's place, are a run between their bounds, and nothing of the others changed.
pub record RunGrows (usable : ℕ) (old new : Paging) (height low high : ℕ) (place : Place) (child : ℕ) (run : Run) : Type 0 where
  pub is : IsRun usable new height low high (with_run place run)
  pub rows : RowsBecome (low_at low place) (high_at high place) (tree_rows usable old height child) (rows_in usable new height run)
      (rows_in usable old height (with_child place child)) (rows_in usable new height (with_run place run))
  pub pages_are : AreSame (pages_in usable new height (with_run place run)) (pages_in usable new height run ++ pages_beside usable old height place)
  pub filled : AreFilledBelow usable old height (with_child place child) → AreFilledBelow usable new height run
      → AreFilledBelow usable new height (with_run place run)

abbrev pub ChildBecomesRun : Type 0
ChildBecomesRun = (usable : ℕ) (old new : Paging) (height low high : ℕ) (place : Place) (child : ℕ) (run : Run)
    → ChildGrows usable old new height low high place child run → RunGrows usable old new height low high place child run

-- Some children of a run one behind the other: they are a run themselves, a stretch of it, and may become another run.
use Rattle.std.specs.Prelude.{◌≡◌, ℕ, ℤ, ◌<◌, ◌≤◌, ◌++◌}
use Rattle.spe_model.specs.Paging.{Paging}
use Rattle.spe_model.specs.Tree.{rank, row_at}
use Rattle.spe_frame.specs.Times.{AreSame}
use Rattle.spe_cut.specs.Run.{AreFilledBelow, AreKept, IsOpen, IsRun, Place, Run, high_at, low_at, pages_beside, pages_in, rows_in, with_run}
use Rattle.spe_cut.specs.Rows.{RowsBecome}

-- A stretch at a place is a run between the bounds there, beside all other children.
pub record IsStretch (usable : ℕ) (pages : Paging) (height low high : ℕ) (place : Place) (stretch : Run) : Type 0 where
  pub run : IsRun usable pages height (low_at low place) (high_at high place) stretch
  pub above : low ≤ low_at low place
  pub below : high_at high place ≤ high
  pub filled : AreFilledBelow usable pages height (with_run place stretch) → AreFilledBelow usable pages height stretch
  pub pages_are : AreSame (pages_in usable pages height (with_run place stretch)) (pages_in usable pages height stretch ++ pages_beside usable pages height place)

abbrev pub StretchOfRun : Type 0
StretchOfRun = (usable : ℕ) (pages : Paging) (height low high : ℕ) (place : Place) (stretch : Run)
    → IsRun usable pages height low high (with_run place stretch) → IsStretch usable pages height low high place stretch

-- it has the row of a rowid between these bounds
abbrev pub RowOfStretch : Type 0
RowOfStretch = (usable : ℕ) (pages : Paging) (height low high : ℕ) (place : Place) (stretch : Run) (rowid : ℤ)
    → IsRun usable pages height low high (with_run place stretch) → low_at low place ≤ rank rowid → rank rowid < high_at high place
    → row_at rowid (rows_in usable pages height (with_run place stretch)) ≡ row_at rowid (rows_in usable pages height stretch)

-- The stretch became another run between the same bounds, whose last child may have a rowid, and the pages of all others
-- keep their bytes.
pub record StretchChanges (usable : ℕ) (old new : Paging) (height low high : ℕ) (place : Place) (stretch run : Run) : Type 0 where
  pub was : IsRun usable old height low high (with_run place stretch)
  pub now : IsRun usable new height (low_at low place) (high_at high place) run
  pub last : IsOpen (low_at low place) (high_at high place) run
  pub others : AreKept old new (pages_beside usable old height place)

-- Then all children, with that run in the place of the stretch, are a run between their bounds, and nothing of the others
-- changed. Fewer children in it are the end of a child, and more are its growth.
pub record RunChanges (usable : ℕ) (old new : Paging) (height low high : ℕ) (place : Place) (stretch run : Run) : Type 0 where
  pub is : IsRun usable new height low high (with_run place run)
  pub rows : RowsBecome (low_at low place) (high_at high place) (rows_in usable old height stretch) (rows_in usable new height run)
      (rows_in usable old height (with_run place stretch)) (rows_in usable new height (with_run place run))
  pub pages_are : AreSame (pages_in usable new height (with_run place run)) (pages_in usable new height run ++ pages_beside usable old height place)
  pub filled : AreFilledBelow usable old height (with_run place stretch) → AreFilledBelow usable new height run
      → AreFilledBelow usable new height (with_run place run)

abbrev pub StretchBecomesRun : Type 0
StretchBecomesRun = (usable : ℕ) (old new : Paging) (height low high : ℕ) (place : Place) (stretch run : Run)
    → StretchChanges usable old new height low high place stretch run → RunChanges usable old new height low high place stretch run

-- a run is one between wider bounds: so a child takes the rowids of its neighbour, where that goes
abbrev pub RunIsWider : Type 0
RunIsWider = (usable : ℕ) (pages : Paging) (height low high low' high' : ℕ) (run : Run)
    → IsRun usable pages height low high run → low' ≤ low → high ≤ high' → IsRun usable pages height low' high' run

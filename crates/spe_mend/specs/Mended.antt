-- Two children of a page that became others.
use Rattle.std.specs.Prelude.{◌≡◌, ℕ, ◌<◌, ◌++◌, drop, length}
use Rattle.spe_model.specs.declared.page.Kind.TheVariants.{TableInterior}
use Rattle.spe_model.specs.Paging.{Paging}
use Rattle.spe_format.specs.Canonical.{AreWritable}
use Rattle.spe_frame.specs.Times.{AreSame}
use Rattle.spe_cut.specs.Run.{AreKept, IsOpen, IsRun, Run, high_at, low_at, pages_beside, pages_in, rows_in, with_run}
use Rattle.spe_mend.specs.Stretch.{first_two, pair_place}

-- the two children on both sides of a cell
abbrev pub pair_of : ℕ → Run → Run
pair_of n children = first_two (drop n children.cells) children.right

-- The two are a run beside all other children.
pub record IsPairOf (usable : ℕ) (pages : Paging) (height low high n : ℕ) (children : Run) : Type 0 where
  pub run : IsRun usable pages height (low_at low (pair_place n children)) (high_at high (pair_place n children)) (pair_of n children)
  pub pages_are : AreSame (pages_in usable pages height children)
      (pages_in usable pages height (pair_of n children) ++ pages_beside usable pages height (pair_place n children))

abbrev pub PairOfRun : Type 0
PairOfRun = (usable : ℕ) (pages : Paging) (height low high n : ℕ) (children : Run) → AreWritable TableInterior usable children.cells → n < length children.cells
    → IsRun usable pages height low high children → IsPairOf usable pages height low high n children

-- They became a run between the same bounds, whose last child may have a rowid, and which has the same rows. The pages of all
-- others keep their bytes.
pub record PairChanges (usable : ℕ) (old new : Paging) (height low high n : ℕ) (children run : Run) : Type 0 where
  pub writable : AreWritable TableInterior usable children.cells
  pub within : n < length children.cells
  pub was : IsRun usable old height low high children
  pub now : IsRun usable new height (low_at low (pair_place n children)) (high_at high (pair_place n children)) run
  pub last : IsOpen (low_at low (pair_place n children)) (high_at high (pair_place n children)) run
  pub rows : rows_in usable new height run ≡ rows_in usable old height (pair_of n children)
  pub others : AreKept old new (pages_beside usable old height (pair_place n children))

-- Then all children, with that run in the place of the two, are a run between their bounds, with the same rows.
pub record ChildrenStay (usable : ℕ) (old new : Paging) (height low high n : ℕ) (children run : Run) : Type 0 where
  pub is : IsRun usable new height low high (with_run (pair_place n children) run)
  pub rows : rows_in usable new height (with_run (pair_place n children) run) ≡ rows_in usable old height children
  pub pages_are : AreSame (pages_in usable new height (with_run (pair_place n children) run))
      (pages_in usable new height run ++ pages_beside usable old height (pair_place n children))

abbrev pub PairBecomesRun : Type 0
PairBecomesRun = (usable : ℕ) (old new : Paging) (height low high n : ℕ) (children run : Run)
    → PairChanges usable old new height low high n children run → ChildrenStay usable old new height low high n children run

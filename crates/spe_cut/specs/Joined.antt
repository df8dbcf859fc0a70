-- Pages that become one: two neighbours of an interior level, and all leaves of a run.
use Rattle.std.specs.Prelude.{◌≡◌, ℕ, zero, suc, ◌+◌, ◌≤◌, List, ◌∷◌, ◌++◌, length}
use Rattle.std.specs.List.{flat_map}
use Rattle.spe_model.specs.declared.page.Cell.{Cell}
use Rattle.spe_model.specs.Paging.{Paging}
use Rattle.spe_model.specs.Standing.{chain_pages}
use Rattle.spe_model.specs.Tree.{AreRows, fan, node_cells, node_right, rank, rows_of, tree_pages}
use Rattle.spe_frame.specs.Times.{AreSame, HoldsOf}
use Rattle.spe_cut.specs.Run.{AreFilledBelow, HoldsRun, IsOpen, IsRun, Run, pages_in, rows_in}
use Rattle.spe_cut.specs.Split.{Cut, high_half, low_half, pair, whole}

-- Two neighbours hold a run each, with a key between them. A rowid of at most this key may stand in the last child of the
-- first: else the key would be no higher than the one before it.
pub record ArePaired (usable : ℕ) (pages : Paging) (height low high : ℕ) (cut : Cut) (first second : ℕ) : Type 0 where
  pub run : IsRun usable pages (suc height) low high (pair cut first second)
  pub lower : HoldsRun usable pages first (low_half cut)
  pub higher : HoldsRun usable pages second (high_half cut)
  pub last : IsOpen low (rank cut.middle.key + 1) (low_half cut)

-- their runs, with the key between them, are one run, which has what the pages have
pub record IsWhole (usable : ℕ) (pages : Paging) (height low high : ℕ) (cut : Cut) (first second : ℕ) : Type 0 where
  pub is : IsRun usable pages height low high (whole cut)
  pub rows : rows_in usable pages height (whole cut) ≡ rows_in usable pages (suc height) (pair cut first second)
  pub pages_are : AreSame (pages_in usable pages (suc height) (pair cut first second)) (first ∷ second ∷ pages_in usable pages height (whole cut))
  pub filled : AreFilledBelow usable pages (suc height) (pair cut first second) → AreFilledBelow usable pages height (whole cut)

abbrev pub PairIsWhole : Type 0
PairIsWhole = (usable : ℕ) (pages : Paging) (height low high : ℕ) (cut : Cut) (first second : ℕ) → 5 ≤ usable
    → ArePaired usable pages height low high cut first second → IsWhole usable pages height low high cut first second

-- the cells of all leaves of a tree, and of a run, in the order of their rowids
abbrev pub cells_under : (usable : ℕ) → Paging → (height page : ℕ) → List Cell
cells_under usable pages zero page = node_cells usable pages page
cells_under usable pages (suc height) page = fan (cells_under usable pages height) (node_cells usable pages page) (node_right usable pages page)

abbrev pub cells_below : (usable : ℕ) → Paging → (height : ℕ) → Run → List Cell
cells_below usable pages height run = fan (cells_under usable pages height) run.cells run.right

-- the pages of a run, overflow pages apart
abbrev pub nodes_in : (usable : ℕ) → Paging → (height : ℕ) → Run → List ℕ
nodes_in usable pages height run = fan (tree_pages usable pages height) run.cells run.right

-- All cells of a run are those of one leaf, if they fit it: rows between the run's bounds, with all its chains. Of pages
-- that are whole, nothing else is in the run than its pages and these chains.
pub record AreGathered (usable : ℕ) (pages : Paging) (height low high : ℕ) (run : Run) : Type 0 where
  pub rows : AreRows usable pages low high (cells_below usable pages height run)
  pub rows_are : rows_in usable pages height run ≡ rows_of usable pages (cells_below usable pages height run)
  pub pages_are : 5 ≤ usable → HoldsOf (λ n. usable ≤ length (pages n)) (nodes_in usable pages height run)
      → AreSame (pages_in usable pages height run) (nodes_in usable pages height run ++ flat_map (chain_pages usable pages) (cells_below usable pages height run))

abbrev pub RunIsGathered : Type 0
RunIsGathered = (usable : ℕ) (pages : Paging) (height low high : ℕ) (run : Run)
    → IsRun usable pages height low high run → AreGathered usable pages height low high run

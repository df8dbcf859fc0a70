-- What stands at a place of an interior page of a table: some cells with a child each, and a last child. One child alone
-- is such a run too, and so is all that an interior page holds.
use Rattle.std.specs.Prelude.{◌≡◌, ◌⊎◌, ℕ, suc, ℤ, ◌+◌, ◌<◌, ◌≤◌, List, [], ◌∷◌, ◌++◌, length, Ok}
use Rattle.std.specs.List.{flat_map}
use Rattle.spe_model.specs.declared.page.Cell.{Cell}
use Rattle.spe_model.specs.declared.page.Kind.TheVariants.{TableInterior}
use Rattle.spe_model.specs.Paging.{Paging}
use Rattle.spe_model.specs.Served.{HasCells}
use Rattle.spe_model.specs.Standing.{AreBelow, all_pages}
use Rattle.spe_model.specs.Tree.{AreUnder, IsTree, fan, node_at, rank, tree_rows}
use Rattle.spe_format.specs.Canonical.{AreWritable}
use Rattle.spe_frame.specs.Times.{HoldsOf}

pub record Run : Type 0 where
  pub cells : List Cell
  pub right : ℕ

-- one child
abbrev pub alone : (page : ℕ) → Run
alone page = record { cells = []; right = page }

-- the cell of an interior page: a child, and the key that no rowid in it is above
abbrev pub separator : (key : ℤ) (child : ℕ) → Cell
separator key child = record { left = child; key = key; payload = 0; local = []; chain = 0 }

-- the children are trees with all leaves `height` levels below them, their rowids at least `low` and under `high`, by rank
abbrev pub IsRun : (usable : ℕ) (pages : Paging) (height low high : ℕ) → Run → Type 0
IsRun usable pages height low high run = AreUnder (IsTree usable pages height) low high run.cells run.right

-- each interior page of these trees has a cell
abbrev pub AreFilledBelow : (usable : ℕ) (pages : Paging) (height : ℕ) → Run → Type 0
AreFilledBelow usable pages height run = AreBelow (HasCells usable pages height) run.cells run.right

-- the rows of the children
abbrev pub rows_in : (usable : ℕ) (pages : Paging) (height : ℕ) → Run → List (ℤ × List ℕ)
rows_in usable pages height run = fan (tree_rows usable pages height) run.cells run.right

-- their pages, with those of their chains
abbrev pub pages_in : (usable : ℕ) (pages : Paging) (height : ℕ) → Run → List ℕ
pages_in usable pages height run = fan (all_pages usable pages height) run.cells run.right

-- a legal interior page has these children
pub record HoldsRun (usable : ℕ) (pages : Paging) (page : ℕ) (run : Run) : Type 0 where
  pub node : node_at usable pages page ≡ Ok (record { kind = TableInterior; cells = run.cells; right = run.right })
  pub writable : AreWritable TableInterior usable run.cells

-- a page that holds a run is the root of a tree one level higher
pub record IsHolder (usable : ℕ) (pages : Paging) (height low high page : ℕ) (run : Run) : Type 0 where
  pub tree : IsTree usable pages (suc height) low high page
  pub rows : tree_rows usable pages (suc height) page ≡ rows_in usable pages height run
  pub pages_are : all_pages usable pages (suc height) page ≡ page ∷ pages_in usable pages height run
  pub filled : (page ≡ 1) ⊎ (1 ≤ length run.cells) → AreFilledBelow usable pages height run → HasCells usable pages (suc height) page

abbrev pub HolderOfRun : Type 0
HolderOfRun = (usable : ℕ) (pages : Paging) (height low high page : ℕ) (run : Run) → 5 ≤ usable
    → HoldsRun usable pages page run → IsRun usable pages height low high run → IsHolder usable pages height low high page run

-- such a tree has a run on its root page, which is found there as the page was read
pub record IsHeld (usable : ℕ) (pages : Paging) (height low high page : ℕ) (run : Run) : Type 0 where
  pub children : IsRun usable pages height low high run
  pub rows : tree_rows usable pages (suc height) page ≡ rows_in usable pages height run
  pub pages_are : all_pages usable pages (suc height) page ≡ page ∷ pages_in usable pages height run
  pub filled : HasCells usable pages (suc height) page → ((page ≡ 1) ⊎ (1 ≤ length run.cells)) × AreFilledBelow usable pages height run

abbrev pub RunOfHolder : Type 0
RunOfHolder = (usable : ℕ) (pages : Paging) (height low high page : ℕ) (run : Run) → 5 ≤ usable
    → HoldsRun usable pages page run → IsTree usable pages (suc height) low high page → IsHeld usable pages height low high page run

-- these pages keep their bytes
abbrev pub AreKept : (old new : Paging) → List ℕ → Type 0
AreKept old new taken = HoldsOf (λ n. new n ≡ old n) taken

-- what a run has where its pages keep their bytes
pub record RunStays (usable : ℕ) (old new : Paging) (height : ℕ) (run : Run) : Type 0 where
  pub is : (low high : ℕ) → IsRun usable old height low high run → IsRun usable new height low high run
  pub rows : rows_in usable new height run ≡ rows_in usable old height run
  pub pages_are : pages_in usable new height run ≡ pages_in usable old height run
  pub filled : AreFilledBelow usable old height run → AreFilledBelow usable new height run

abbrev pub KeptRunStays : Type 0
KeptRunStays = (usable : ℕ) (old new : Paging) (height : ℕ) (run : Run)
    → AreKept old new (pages_in usable old height run) → RunStays usable old new height run

-- A place of a child in a run. Some cells stand before it; it is that of the cell behind them, or the last place.
pub data Place : Type 0 where
  inner : (before : List Cell) (cell : Cell) (after : List Cell) (right : ℕ) → Place
  last : (before : List Cell) → Place

-- the run with a child at the place
abbrev pub with_child : Place → (child : ℕ) → Run
with_child (inner before c after right) child = record { cells = before ++ (record c { left = child } ∷ after); right = right }
with_child (last before) child = record { cells = before; right = child }

-- the run with others in the child's place, the last of which takes the child's cell
abbrev pub with_run : Place → Run → Run
with_run (inner before c after right) run = record { cells = before ++ (run.cells ++ (record c { left = run.right } ∷ after)); right = right }
with_run (last before) run = record { cells = before ++ run.cells; right = run.right }

-- what comes after some cells comes from here on, by rank
abbrev pub bound_after : (low : ℕ) → List Cell → ℕ
bound_after low [] = low
bound_after low (c ∷ cs) = bound_after (rank c.key + 1) cs

-- a rowid between the bounds may stand in the last child
abbrev pub IsOpen : (low high : ℕ) → Run → Type 0
IsOpen low high run = bound_after low run.cells < high

abbrev pub cells_before : Place → List Cell
cells_before (inner before c after right) = before
cells_before (last before) = before

-- the bounds of a child at a place
abbrev pub low_at : (low : ℕ) → Place → ℕ
low_at low place = bound_after low (cells_before place)

abbrev pub high_at : (high : ℕ) → Place → ℕ
high_at high (inner before c after right) = rank c.key + 1
high_at high (last before) = high

-- what the children before the place have, and those behind it
abbrev pub front : {X : Type 0} → (ℕ → List X) → Place → List X
front own place = flat_map (λ (d : Cell). own d.left) (cells_before place)

abbrev pub back : {X : Type 0} → (ℕ → List X) → Place → List X
back own (inner before c after right) = fan own after right
back own (last before) = []

-- the pages of all other children
abbrev pub pages_beside : (usable : ℕ) (pages : Paging) (height : ℕ) → Place → List ℕ
pages_beside usable pages height place = front (all_pages usable pages height) place ++ back (all_pages usable pages height) place

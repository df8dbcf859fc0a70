-- The cells of a leaf in several parts, each on a leaf of its own.
use Rattle.std.specs.Prelude.{◌≡◌, ℕ, ℤ, pos, ◌≤◌, List, [], ◌∷◌, ◌++◌, length, map, Ok, All}
use Rattle.std.specs.List.{flat_map}
use Rattle.spe_model.specs.declared.page.Cell.{Cell}
use Rattle.spe_model.specs.declared.page.Kind.TheVariants.{TableLeaf}
use Rattle.spe_model.specs.Paging.{Paging}
use Rattle.spe_model.specs.Standing.{chain_pages}
use Rattle.spe_model.specs.Tree.{AreRows, node_at, rows_of}
use Rattle.spe_frame.specs.Times.{AreSame}
use Rattle.spe_cut.specs.Run.{AreFilledBelow, IsOpen, IsRun, Run, pages_in, rows_in, separator}

-- A leaf: its page, and its cells.
pub record Leaf : Type 0 where
  pub page : ℕ
  pub cells : List Cell

-- the page is a legal leaf with these cells
abbrev pub IsLeaf : (usable : ℕ) (pages : Paging) → Leaf → Type 0
IsLeaf usable pages leaf = node_at usable pages leaf.page ≡ Ok (record { kind = TableLeaf; cells = leaf.cells; right = 0 })

-- the highest rowid of some cells
abbrev pub last_key : List Cell → ℤ
last_key [] = pos 0
last_key (c ∷ []) = c.key
last_key (c ∷ d ∷ cs) = last_key (d ∷ cs)

-- leaves one behind the other as a run: the highest rowid of each but the last is the key behind it
abbrev pub leaves_run : List Leaf → (end : Leaf) → Run
leaves_run leaves end = record { cells = map (λ (l : Leaf). separator (last_key l.cells) l.page) leaves; right = end.page }

-- the cells of all
abbrev pub leaves_cells : List Leaf → (end : Leaf) → List Cell
leaves_cells leaves end = flat_map (λ (l : Leaf). l.cells) leaves ++ end.cells

-- Leaves hold parts of some rows; none but the last is without a cell.
pub record HoldParts (usable : ℕ) (pages : Paging) (low high : ℕ) (leaves : List Leaf) (end : Leaf) : Type 0 where
  pub rows : AreRows usable pages low high (leaves_cells leaves end)
  pub are : All (IsLeaf usable pages) leaves
  pub last : IsLeaf usable pages end
  pub some : All (λ (l : Leaf). 1 ≤ length l.cells) leaves

-- they are a run, and have what the cells have
pub record AreParts (usable : ℕ) (pages : Paging) (low high : ℕ) (leaves : List Leaf) (end : Leaf) : Type 0 where
  pub is : IsRun usable pages 0 low high (leaves_run leaves end)
  pub last : 1 ≤ length end.cells → IsOpen low high (leaves_run leaves end)
  pub rows : rows_in usable pages 0 (leaves_run leaves end) ≡ rows_of usable pages (leaves_cells leaves end)
  pub pages_are : AreSame (pages_in usable pages 0 (leaves_run leaves end))
      (map (λ (l : Leaf). l.page) leaves ++ (end.page ∷ flat_map (chain_pages usable pages) (leaves_cells leaves end)))
  pub filled : AreFilledBelow usable pages 0 (leaves_run leaves end)

abbrev pub PartsAreRun : Type 0
PartsAreRun = (usable : ℕ) (pages : Paging) (low high : ℕ) (leaves : List Leaf) (end : Leaf)
    → HoldParts usable pages low high leaves end → AreParts usable pages low high leaves end

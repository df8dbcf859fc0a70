-- Rows in the order of their rowids, and one less among them.
use Rattle.std.specs.Prelude.{◌≡◌, ℕ, ℤ, ◌<◌, ◌≤◌, List, ◌∷◌, ◌++◌, filter, not, None, Some}
use Rattle.std.specs.List.{flat_map}
use Rattle.std.specs.Ordering.{int_eq}
use Rattle.spe_model.specs.declared.page.Cell.{Cell}
use Rattle.spe_model.specs.Chain.{IsChain}
use Rattle.spe_model.specs.Paging.{Paging}
use Rattle.spe_model.specs.Standing.{chain_pages}
use Rattle.spe_model.specs.Tree.{AreRows, payload_of, rank, rest_of, row_at, rows_of}
use Rattle.spe_frame.specs.Times.{AreSame}
use Rattle.spe_cut.specs.Rows.{RowsBecome}

-- the rows with other rowids
abbrev pub without_row : (rowid : ℤ) → List (ℤ × List ℕ) → List (ℤ × List ℕ)
without_row rowid rows = filter (λ (r : ℤ × List ℕ). not (int_eq r.0 rowid)) rows

-- none of them has the rowid
abbrev pub RowIsGone : Type 0
RowIsGone = (rowid : ℤ) (rows : List (ℤ × List ℕ)) → row_at rowid (without_row rowid rows) ≡ None

-- where rows between two bounds become what they are without a row, so do all
abbrev pub RowIsTaken : Type 0
RowIsTaken = (low high : ℕ) (part part' whole whole' : List (ℤ × List ℕ)) (rowid : ℤ)
    → RowsBecome low high part part' whole whole' → low ≤ rank rowid → rank rowid < high
    → part' ≡ without_row rowid part → whole' ≡ without_row rowid whole

-- Cells of a leaf without one of them: they are rows again, all but that of the cell, which has its chain.
pub record RowDropped (usable : ℕ) (pages : Paging) (low high : ℕ) (before : List Cell) (cell : Cell) (after : List Cell) : Type 0 where
  pub rows : AreRows usable pages low high (before ++ after)
  pub was : row_at cell.key (rows_of usable pages (before ++ (cell ∷ after))) ≡ Some (payload_of usable pages cell)
  pub others : rows_of usable pages (before ++ after) ≡ without_row cell.key (rows_of usable pages (before ++ (cell ∷ after)))
  pub chain : IsChain usable pages (rest_of cell) cell.chain
  pub chains : AreSame (flat_map (chain_pages usable pages) (before ++ (cell ∷ after)))
      (chain_pages usable pages cell ++ flat_map (chain_pages usable pages) (before ++ after))

abbrev pub CellDropsRow : Type 0
CellDropsRow = (usable : ℕ) (pages : Paging) (low high : ℕ) (before : List Cell) (cell : Cell) (after : List Cell)
    → AreRows usable pages low high (before ++ (cell ∷ after)) → RowDropped usable pages low high before cell after

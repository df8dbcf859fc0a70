-- Rows in the order of their rowids, and another payload in one of them.
use Rattle.std.specs.Prelude.{◌≡◌, ℕ, ℤ, ◌<◌, ◌≤◌, List, ◌∷◌, ◌++◌, map, if◌then◌else◌}
use Rattle.std.specs.List.{flat_map}
use Rattle.std.specs.Ordering.{int_eq}
use Rattle.spe_model.specs.declared.page.Cell.{Cell}
use Rattle.spe_model.specs.Chain.{IsChain}
use Rattle.spe_model.specs.Paging.{Paging}
use Rattle.spe_model.specs.Standing.{chain_pages}
use Rattle.spe_model.specs.Tree.{AreRows, payload_of, rank, rest_of, rows_of}
use Rattle.spe_frame.specs.Times.{AreSame}
use Rattle.spe_cut.specs.Rows.{RowsBecome}

-- the rows with another payload in that of a rowid
abbrev pub with_payload : (rowid : ℤ) (payload : List ℕ) → List (ℤ × List ℕ) → List (ℤ × List ℕ)
with_payload rowid payload rows = map (λ (r : ℤ × List ℕ). if int_eq r.0 rowid then (rowid, payload) else r) rows

-- where rows between two bounds become what they are with another payload in one, so do all
abbrev pub RowIsChanged : Type 0
RowIsChanged = (low high : ℕ) (part part' whole whole' : List (ℤ × List ℕ)) (rowid : ℤ) (payload : List ℕ)
    → RowsBecome low high part part' whole whole' → low ≤ rank rowid → rank rowid < high
    → part' ≡ with_payload rowid payload part → whole' ≡ with_payload rowid payload whole

-- Cells of a leaf, and another cell for the same rowid as one of them, the rest of whose payload stands in its chain.
pub record IsOtherCell (usable : ℕ) (pages : Paging) (low high : ℕ) (before : List Cell) (cell other : Cell) (after : List Cell) : Type 0 where
  pub rows : AreRows usable pages low high (before ++ (cell ∷ after))
  pub key : other.key ≡ cell.key
  pub chain : IsChain usable pages (rest_of other) other.chain

-- with it in the place of the one they are rows again, of which that one has the other payload
pub record RowChanged (usable : ℕ) (pages : Paging) (low high : ℕ) (before : List Cell) (cell other : Cell) (after : List Cell) : Type 0 where
  pub rows : AreRows usable pages low high (before ++ (other ∷ after))
  pub with_it : rows_of usable pages (before ++ (other ∷ after)) ≡ with_payload cell.key (payload_of usable pages other) (rows_of usable pages (before ++ (cell ∷ after)))
  pub chains : AreSame (flat_map (chain_pages usable pages) (before ++ (other ∷ after)))
      (chain_pages usable pages other ++ flat_map (chain_pages usable pages) (before ++ after))

abbrev pub CellChangesRow : Type 0
CellChangesRow = (usable : ℕ) (pages : Paging) (low high : ℕ) (before : List Cell) (cell other : Cell) (after : List Cell)
    → IsOtherCell usable pages low high before cell other after → RowChanged usable pages low high before cell other after

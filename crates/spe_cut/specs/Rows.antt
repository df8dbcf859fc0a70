-- Rows in the order of their rowids, and one more among them.
use Rattle.std.specs.Prelude.{◌≡◌, ℕ, ℤ, ◌<◌, ◌≤◌, List, [], ◌∷◌, ◌++◌, All, None, nat_lt, true, if◌then◌else◌}
use Rattle.std.specs.List.{flat_map}
use Rattle.spe_model.specs.declared.page.Cell.{Cell}
use Rattle.spe_model.specs.Chain.{IsChain}
use Rattle.spe_model.specs.Page.{ascends}
use Rattle.spe_model.specs.Paging.{Paging}
use Rattle.spe_model.specs.Standing.{chain_pages}
use Rattle.spe_model.specs.Tree.{AreRows, payload_of, rank, rest_of, row_at, rows_of}
use Rattle.spe_frame.specs.Times.{AreSame}
use Rattle.spe_cut.specs.Run.{AreKept, IsRun, Run}

-- rows with one more, before the first that has a higher rowid
abbrev pub with_row : (rowid : ℤ) (payload : List ℕ) → List (ℤ × List ℕ) → List (ℤ × List ℕ)
with_row rowid payload [] = (rowid, payload) ∷ []
with_row rowid payload (r ∷ rs) = if nat_lt (rank rowid) (rank r.0) then (rowid, payload) ∷ r ∷ rs else r ∷ with_row rowid payload rs

-- all rowids are under a bound by rank, or none is under it
abbrev pub AreLower : (high : ℕ) → List (ℤ × List ℕ) → Type 0
AreLower high rows = All (λ (r : ℤ × List ℕ). rank r.0 < high) rows

abbrev pub AreHigher : (low : ℕ) → List (ℤ × List ℕ) → Type 0
AreHigher low rows = All (λ (r : ℤ × List ℕ). low ≤ rank r.0) rows

-- Of all rows those between two bounds become others.
pub record RowsBecome (low high : ℕ) (part part' whole whole' : List (ℤ × List ℕ)) : Type 0 where
  pub before : List (ℤ × List ℕ)
  pub after : List (ℤ × List ℕ)
  pub lower : AreLower low before
  pub higher : AreHigher high after
  pub old : whole ≡ before ++ (part ++ after)
  pub new : whole' ≡ before ++ (part' ++ after)

-- where these become what they are with one row more, so do all
abbrev pub RowIsPut : Type 0
RowIsPut = (low high : ℕ) (part part' whole whole' : List (ℤ × List ℕ)) (rowid : ℤ) (payload : List ℕ)
    → RowsBecome low high part part' whole whole' → low ≤ rank rowid → rank rowid < high
    → part' ≡ with_row rowid payload part → whole' ≡ with_row rowid payload whole

-- and a rowid between the bounds has the row that it has among these
abbrev pub RowIsThere : Type 0
RowIsThere = (low high : ℕ) (part part' whole whole' : List (ℤ × List ℕ)) (rowid : ℤ)
    → RowsBecome low high part part' whole whole' → low ≤ rank rowid → rank rowid < high
    → row_at rowid whole ≡ row_at rowid part

-- Cells of a leaf, and one more at its place among them, the rest of whose payload stands in its chain.
pub record IsPlaced (usable : ℕ) (pages : Paging) (low high : ℕ) (before : List Cell) (cell : Cell) (after : List Cell) : Type 0 where
  pub rows : AreRows usable pages low high (before ++ after)
  pub lower : All (λ (d : Cell). rank d.key < rank cell.key) before
  pub higher : All (λ (d : Cell). rank cell.key < rank d.key) after
  pub from : low ≤ rank cell.key
  pub to : rank cell.key < high
  pub chain : IsChain usable pages (rest_of cell) cell.chain

-- they are rows again, with that one
pub record RowAdded (usable : ℕ) (pages : Paging) (low high : ℕ) (before : List Cell) (cell : Cell) (after : List Cell) : Type 0 where
  pub rows : AreRows usable pages low high (before ++ (cell ∷ after))
  pub with_it : rows_of usable pages (before ++ (cell ∷ after)) ≡ with_row cell.key (payload_of usable pages cell) (rows_of usable pages (before ++ after))
  pub new : row_at cell.key (rows_of usable pages (before ++ after)) ≡ None
  pub chains : AreSame (flat_map (chain_pages usable pages) (before ++ (cell ∷ after)))
      (chain_pages usable pages cell ++ flat_map (chain_pages usable pages) (before ++ after))

abbrev pub CellAddsRow : Type 0
CellAddsRow = (usable : ℕ) (pages : Paging) (low high : ℕ) (before : List Cell) (cell : Cell) (after : List Cell)
    → IsPlaced usable pages low high before cell after → RowAdded usable pages low high before cell after

-- cells whose chains keep their bytes have the rows and chains that they had
pub record RowsStay (usable : ℕ) (old new : Paging) (cells : List Cell) : Type 0 where
  pub rows : (low high : ℕ) → AreRows usable old low high cells → AreRows usable new low high cells
  pub are : rows_of usable new cells ≡ rows_of usable old cells
  pub chains : flat_map (chain_pages usable new) cells ≡ flat_map (chain_pages usable old) cells

abbrev pub KeptRowsStay : Type 0
KeptRowsStay = (usable : ℕ) (old new : Paging) (cells : List Cell)
    → AreKept old new (flat_map (chain_pages usable old) cells) → RowsStay usable old new cells

-- the keys of rows ascend, and so do those of a run
abbrev pub RowsAscend : Type 0
RowsAscend = (usable : ℕ) (pages : Paging) (low high : ℕ) (cells : List Cell) → AreRows usable pages low high cells → ascends cells ≡ true

abbrev pub RunAscends : Type 0
RunAscends = (usable : ℕ) (pages : Paging) (height low high : ℕ) (run : Run) → IsRun usable pages height low high run → ascends run.cells ≡ true

-- One row less among rows, and one cell less among cells.
use Rattle.std.proofs.Common.{◌≡◌, ℕ, ℤ, ◌+◌, ◌<◌, ◌≤◌, ◌∙◌, Bool, true, List, [], ◌∷◌, ◌++◌, Some, refl, sym, ap, arith, inl, inr}
use Rattle.std.specs.Prelude.{not}
use Rattle.std.specs.Ordering.{int_eq}
use Rattle.std.proofs.lemmas.Bool.{cases_Bool}
use Rattle.std.proofs.lemmas.Bool.Decides.{Decides-int_eq}
use Rattle.std.proofs.lemmas.List.Elements.{All-head, All-tail, filter-append}
use Rattle.spe_model.specs.declared.page.Cell.{Cell}
use Rattle.spe_model.specs.Chain.{IsChain}
use Rattle.spe_model.specs.Paging.{Paging}
use Rattle.spe_model.specs.Standing.{chain_pages}
use Rattle.spe_model.specs.Tree.{AreRows, payload_of, rank, rest_of, row_at, rows_of}
use Rattle.spe_cut.specs.Gone.{CellDropsRow, RowIsGone, RowIsTaken, without_row}
use Rattle.spe_cut.specs.Rows.{AreHigher, AreLower}
use Rattle.spe_cut.proofs.RowLemmas.{one_more, other_rowid}

abbrev Row : Type 0
Row = ℤ × List ℕ

abbrev is_other : ℤ → Row → Bool
is_other rowid r = not (int_eq r.0 rowid)

pub same_rowid : (a : ℤ) → int_eq a a ≡ true
same_rowid a = (Decides-int_eq a a).1 refl

pub row_is_gone : RowIsGone
row_is_gone rowid [] = refl
row_is_gone rowid (r ∷ rs) = elim (cases_Bool (int_eq r.0 rowid)) [
  | inl same ↦ rw same (row_is_gone rowid rs)
  | inr other ↦ rw (other, other) (row_is_gone rowid rs)
]

-- where no row has the rowid, all stay
lower_stay : (rowid : ℤ) (bound : ℕ) (rows : List Row) → AreLower bound rows → bound ≤ rank rowid → without_row rowid rows ≡ rows
lower_stay rowid bound [] lower from = refl
lower_stay rowid bound (r ∷ rs) lower from =
    let P : Row → Type 0 = λ s. rank s.0 < bound in
    let first : rank r.0 < bound = All-head P r rs lower in
    rw (other_rowid r.0 rowid (inl (omega (arith, first, from))), lower_stay rowid bound rs (All-tail P r rs lower) from) refl

higher_stay : (rowid : ℤ) (bound : ℕ) (rows : List Row) → AreHigher bound rows → rank rowid < bound → without_row rowid rows ≡ rows
higher_stay rowid bound [] higher to = refl
higher_stay rowid bound (r ∷ rs) higher to =
    let P : Row → Type 0 = λ s. bound ≤ rank s.0 in
    let first : bound ≤ rank r.0 = All-head P r rs higher in
    rw (other_rowid r.0 rowid (inr (omega (arith, first, to))), higher_stay rowid bound rs (All-tail P r rs higher) to) refl

pub row_is_taken : RowIsTaken
row_is_taken low high part part' whole whole' rowid becomes from to taken =
    let keep = is_other rowid in
    becomes.new ∙ ap (λ (rows : List Row). becomes.before ++ (rows ++ becomes.after)) taken
    ∙ ap (λ (rows : List Row). becomes.before ++ (without_row rowid part ++ rows)) (sym (higher_stay rowid high becomes.after becomes.higher to))
    ∙ ap (λ (rows : List Row). becomes.before ++ rows) (sym (filter-append keep part becomes.after))
    ∙ ap (λ (rows : List Row). rows ++ without_row rowid (part ++ becomes.after)) (sym (lower_stay rowid low becomes.before becomes.lower from))
    ∙ sym (filter-append keep becomes.before (part ++ becomes.after)) ∙ ap (without_row rowid) (sym becomes.old)

pub rows_wider : (usable : ℕ) (pages : Paging) (low high low' high' : ℕ) (cells : List Cell) → AreRows usable pages low high cells → low' ≤ low → high ≤ high'
    → AreRows usable pages low' high' cells
rows_wider usable pages low high low' high' [] rows from to = omega (arith, rows, from, to)
rows_wider usable pages low high low' high' (c ∷ cs) rows from to = (
  omega (arith, rows.0, from),
  omega (arith, rows.1, to),
  rows.2,
  rows_wider usable pages (rank c.key + 1) high (rank c.key + 1) high' cs rows.3 (omega arith) to,
)

-- a cell among rows is above the bound
pub cell_above : (usable : ℕ) (pages : Paging) (low high : ℕ) (before : List Cell) (cell : Cell) (after : List Cell) → AreRows usable pages low high (before ++ (cell ∷ after))
    → low ≤ rank cell.key
cell_above usable pages low high [] cell after rows = rows.0
cell_above usable pages low high (c ∷ cs) cell after rows =
    let next = cell_above usable pages (rank c.key + 1) high cs cell after rows.3 in omega (arith, rows.0, next)

pub rows_without : (usable : ℕ) (pages : Paging) (low high : ℕ) (before : List Cell) (cell : Cell) (after : List Cell) → AreRows usable pages low high (before ++ (cell ∷ after))
    → AreRows usable pages low high (before ++ after)
rows_without usable pages low high [] cell after rows = rows_wider usable pages (rank cell.key + 1) high low high after rows.3 (omega (arith, rows.0)) (omega arith)
rows_without usable pages low high (c ∷ cs) cell after rows = (rows.0, rows.1, rows.2, rows_without usable pages (rank c.key + 1) high cs cell after rows.3)

row_was : (usable : ℕ) (pages : Paging) (low high : ℕ) (before : List Cell) (cell : Cell) (after : List Cell) → AreRows usable pages low high (before ++ (cell ∷ after))
    → row_at cell.key (rows_of usable pages (before ++ (cell ∷ after))) ≡ Some (payload_of usable pages cell)
row_was usable pages low high [] cell after rows = rw (same_rowid cell.key) refl
row_was usable pages low high (c ∷ cs) cell after rows =
    let up = cell_above usable pages (rank c.key + 1) high cs cell after rows.3 in
    rw (other_rowid c.key cell.key (inl (omega (arith, up)))) (row_was usable pages (rank c.key + 1) high cs cell after rows.3)

-- rows behind a rowid stay without it
behind_stay : (usable : ℕ) (pages : Paging) (rowid : ℤ) (low high : ℕ) (cells : List Cell) → rank rowid < low → AreRows usable pages low high cells
    → without_row rowid (rows_of usable pages cells) ≡ rows_of usable pages cells
behind_stay usable pages rowid low high [] under rows = refl
behind_stay usable pages rowid low high (c ∷ cs) under rows =
    rw (other_rowid c.key rowid (inr (omega (arith, under, rows.0))), behind_stay usable pages rowid (rank c.key + 1) high cs (omega (arith, under, rows.0)) rows.3) refl

others_are : (usable : ℕ) (pages : Paging) (low high : ℕ) (before : List Cell) (cell : Cell) (after : List Cell) → AreRows usable pages low high (before ++ (cell ∷ after))
    → rows_of usable pages (before ++ after) ≡ without_row cell.key (rows_of usable pages (before ++ (cell ∷ after)))
others_are usable pages low high [] cell after rows =
    rw (same_rowid cell.key) (sym (behind_stay usable pages cell.key (rank cell.key + 1) high after (omega arith) rows.3))
others_are usable pages low high (c ∷ cs) cell after rows =
    let up = cell_above usable pages (rank c.key + 1) high cs cell after rows.3 in
    rw (other_rowid c.key cell.key (inl (omega (arith, up))), others_are usable pages (rank c.key + 1) high cs cell after rows.3) refl

chain_was : (usable : ℕ) (pages : Paging) (low high : ℕ) (before : List Cell) (cell : Cell) (after : List Cell) → AreRows usable pages low high (before ++ (cell ∷ after))
    → IsChain usable pages (rest_of cell) cell.chain
chain_was usable pages low high [] cell after rows = rows.2
chain_was usable pages low high (c ∷ cs) cell after rows = chain_was usable pages (rank c.key + 1) high cs cell after rows.3

pub cell_drops_row : CellDropsRow
cell_drops_row usable pages low high before cell after rows = record {
  rows = rows_without usable pages low high before cell after rows;
  was = row_was usable pages low high before cell after rows;
  others = others_are usable pages low high before cell after rows;
  chain = chain_was usable pages low high before cell after rows;
  chains = one_more (chain_pages usable pages) before cell after;
}

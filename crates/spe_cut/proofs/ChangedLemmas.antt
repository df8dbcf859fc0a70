-- Another payload in a row among rows, and another cell among cells.
use Rattle.std.proofs.Common.{◌≡◌, ℕ, ℤ, ◌+◌, ◌<◌, ◌≤◌, ◌∙◌, List, [], ◌∷◌, ◌++◌, refl, sym, ap, subst, arith, inl, inr}
use Rattle.std.specs.Prelude.{if◌then◌else◌}
use Rattle.std.specs.Ordering.{int_eq}
use Rattle.std.proofs.lemmas.List.{map-append}
use Rattle.std.proofs.lemmas.List.Elements.{All-head, All-tail}
use Rattle.spe_model.specs.declared.page.Cell.{Cell}
use Rattle.spe_model.specs.Chain.{IsChain}
use Rattle.spe_model.specs.Paging.{Paging}
use Rattle.spe_model.specs.Standing.{chain_pages}
use Rattle.spe_model.specs.Tree.{AreRows, payload_of, rank, rest_of, rows_of}
use Rattle.spe_cut.specs.Changed.{CellChangesRow, RowIsChanged, with_payload}
use Rattle.spe_cut.specs.Rows.{AreHigher, AreLower}
use Rattle.spe_cut.proofs.GoneLemmas.{cell_above, same_rowid}
use Rattle.spe_cut.proofs.RowLemmas.{one_more, other_rowid}

abbrev Row : Type 0
Row = ℤ × List ℕ

-- where no row has the rowid, all stay
lower_stay : (rowid : ℤ) (payload : List ℕ) (bound : ℕ) (rows : List Row) → AreLower bound rows → bound ≤ rank rowid → with_payload rowid payload rows ≡ rows
lower_stay rowid payload bound [] lower from = refl
lower_stay rowid payload bound (r ∷ rs) lower from =
    let P : Row → Type 0 = λ s. rank s.0 < bound in
    let first : rank r.0 < bound = All-head P r rs lower in
    rw (other_rowid r.0 rowid (inl (omega (arith, first, from))), lower_stay rowid payload bound rs (All-tail P r rs lower) from) refl

higher_stay : (rowid : ℤ) (payload : List ℕ) (bound : ℕ) (rows : List Row) → AreHigher bound rows → rank rowid < bound → with_payload rowid payload rows ≡ rows
higher_stay rowid payload bound [] higher to = refl
higher_stay rowid payload bound (r ∷ rs) higher to =
    let P : Row → Type 0 = λ s. bound ≤ rank s.0 in
    let first : bound ≤ rank r.0 = All-head P r rs higher in
    rw (other_rowid r.0 rowid (inr (omega (arith, first, to))), higher_stay rowid payload bound rs (All-tail P r rs higher) to) refl

abbrev changed : ℤ → List ℕ → Row → Row
changed rowid payload r = if int_eq r.0 rowid then (rowid, payload) else r

pub row_is_changed : RowIsChanged
row_is_changed low high part part' whole whole' rowid payload becomes from to taken =
    let turn = changed rowid payload in
    becomes.new ∙ ap (λ (rows : List Row). becomes.before ++ (rows ++ becomes.after)) taken
    ∙ ap (λ (rows : List Row). becomes.before ++ (with_payload rowid payload part ++ rows)) (sym (higher_stay rowid payload high becomes.after becomes.higher to))
    ∙ ap (λ (rows : List Row). becomes.before ++ rows) (sym (map-append turn part becomes.after))
    ∙ ap (λ (rows : List Row). rows ++ with_payload rowid payload (part ++ becomes.after)) (sym (lower_stay rowid payload low becomes.before becomes.lower from))
    ∙ sym (map-append turn becomes.before (part ++ becomes.after)) ∙ ap (with_payload rowid payload) (sym becomes.old)

-- rows behind a rowid stay
behind_stay : (usable : ℕ) (pages : Paging) (rowid : ℤ) (payload : List ℕ) (low high : ℕ) (cells : List Cell) → rank rowid < low → AreRows usable pages low high cells
    → with_payload rowid payload (rows_of usable pages cells) ≡ rows_of usable pages cells
behind_stay usable pages rowid payload low high [] under rows = refl
behind_stay usable pages rowid payload low high (c ∷ cs) under rows =
    rw (other_rowid c.key rowid (inr (omega (arith, under, rows.0))), behind_stay usable pages rowid payload (rank c.key + 1) high cs (omega (arith, under, rows.0)) rows.3) refl

rows_with : (usable : ℕ) (pages : Paging) (low high : ℕ) (before : List Cell) (cell other : Cell) (after : List Cell) → AreRows usable pages low high (before ++ (cell ∷ after))
    → other.key ≡ cell.key → IsChain usable pages (rest_of other) other.chain → AreRows usable pages low high (before ++ (other ∷ after))
rows_with usable pages low high [] cell other after rows key chain =
    subst (λ (k : ℤ). (low ≤ rank k) × (rank k < high) × IsChain usable pages (rest_of other) other.chain × AreRows usable pages (rank k + 1) high after) (sym key)
    (rows.0, rows.1, chain, rows.3)
rows_with usable pages low high (c ∷ cs) cell other after rows key chain =
    (rows.0, rows.1, rows.2, rows_with usable pages (rank c.key + 1) high cs cell other after rows.3 key chain)

row_with : (usable : ℕ) (pages : Paging) (low high : ℕ) (before : List Cell) (cell other : Cell) (after : List Cell) → AreRows usable pages low high (before ++ (cell ∷ after))
    → other.key ≡ cell.key
    → rows_of usable pages (before ++ (other ∷ after)) ≡ with_payload cell.key (payload_of usable pages other) (rows_of usable pages (before ++ (cell ∷ after)))
row_with usable pages low high [] cell other after rows key =
    rw (same_rowid cell.key, key, behind_stay usable pages cell.key (payload_of usable pages other) (rank cell.key + 1) high after (omega arith) rows.3) refl
row_with usable pages low high (c ∷ cs) cell other after rows key =
    let up = cell_above usable pages (rank c.key + 1) high cs cell after rows.3 in
    rw (other_rowid c.key cell.key (inl (omega (arith, up))), row_with usable pages (rank c.key + 1) high cs cell other after rows.3 key) refl

pub cell_changes_row : CellChangesRow
cell_changes_row usable pages low high before cell other after is = record {
  rows = rows_with usable pages low high before cell other after is.rows is.key is.chain;
  with_it = row_with usable pages low high before cell other after is.rows is.key;
  chains = one_more (chain_pages usable pages) before other after;
}

-- One row more among rows, and one cell more among cells.
use Rattle.std.proofs.Common.{◌≡◌, ℕ, ℤ, ◌+◌, ◌<◌, ◌≤◌, ◌∙◌, ◌⊎◌, false, List, [], ◌∷◌, ◌++◌, All, None, refl, sym, ap, arith, inl, inr}
use Rattle.std.specs.Prelude.{nat_lt}
use Rattle.std.specs.List.{flat_map}
use Rattle.std.specs.Ordering.{int_eq}
use Rattle.std.proofs.lemmas.Bool.{cases_Bool, le-ltb, lt-ltb}
use Rattle.std.proofs.lemmas.Bool.Decides.{Decides-int_eq}
use Rattle.std.proofs.lemmas.List.Elements.{All-head, All-tail}
use Rattle.spe_model.specs.declared.page.Cell.{Cell}
use Rattle.spe_model.specs.Paging.{Paging}
use Rattle.spe_model.specs.Standing.{chain_pages}
use Rattle.spe_model.specs.Tree.{AreRows, payload_of, rank, row_at, rows_of}
use Rattle.spe_frame.specs.Times.{AreSame, times}
use Rattle.spe_frame.proofs.TimesLemmas.{times-append}
use Rattle.spe_cut.specs.Rows.{AreHigher, AreLower, CellAddsRow, IsPlaced, RowIsPut, RowIsThere, with_row}

abbrev IsLower : (high : ℕ) → ℤ × List ℕ → Type 0
IsLower high r = rank r.0 < high

abbrev IsHigher : (low : ℕ) → ℤ × List ℕ → Type 0
IsHigher low r = low ≤ rank r.0

pub other_rowid : (a b : ℤ) → (rank a < rank b) ⊎ (rank b < rank a) → int_eq a b ≡ false
other_rowid a b order = elim (cases_Bool (int_eq a b)) [
  | inl same ↦ absurd (let e = ap rank ((Decides-int_eq a b).0 same) in omega (arith, e, order))
  | inr other ↦ other
]

put_behind : (rowid : ℤ) (payload : List ℕ) (bound : ℕ) (before rest : List (ℤ × List ℕ)) → AreLower bound before → bound ≤ rank rowid
    → with_row rowid payload (before ++ rest) ≡ before ++ with_row rowid payload rest
put_behind rowid payload bound [] rest lower from = refl
put_behind rowid payload bound (r ∷ rs) rest lower from =
    let first = All-head (IsLower bound) r rs lower in
    rw (le-ltb (rank rowid) (rank r.0) (omega (arith, first, from)), put_behind rowid payload bound rs rest (All-tail (IsLower bound) r rs lower) from) refl

put_first : (rowid : ℤ) (payload : List ℕ) (bound : ℕ) (after : List (ℤ × List ℕ)) → AreHigher bound after → rank rowid < bound
    → with_row rowid payload after ≡ (rowid, payload) ∷ after
put_first rowid payload bound [] higher to = refl
put_first rowid payload bound (r ∷ rs) higher to =
    let first = All-head (IsHigher bound) r rs higher in rw (lt-ltb (rank rowid) (rank r.0) (omega (arith, first, to))) refl

put_before : (rowid : ℤ) (payload : List ℕ) (bound : ℕ) (part after : List (ℤ × List ℕ)) → AreHigher bound after → rank rowid < bound
    → with_row rowid payload (part ++ after) ≡ with_row rowid payload part ++ after
put_before rowid payload bound [] after higher to = put_first rowid payload bound after higher to
put_before rowid payload bound (r ∷ rs) after higher to = elim (cases_Bool (nat_lt (rank rowid) (rank r.0))) [
  | inl here ↦ rw here refl
  | inr behind ↦ rw (behind, put_before rowid payload bound rs after higher to) refl
]

pub row_put : RowIsPut
row_put low high part part' whole whole' rowid payload becomes from to put =
    becomes.new ∙ ap (λ (rows : List _). becomes.before ++ (rows ++ becomes.after)) put
    ∙ ap (λ (rows : List _). becomes.before ++ rows) (sym (put_before rowid payload high part becomes.after becomes.higher to))
    ∙ sym (put_behind rowid payload low becomes.before (part ++ becomes.after) becomes.lower from)
    ∙ ap (with_row rowid payload) (sym becomes.old)

there_behind : (rowid : ℤ) (bound : ℕ) (before rest : List (ℤ × List ℕ)) → AreLower bound before → bound ≤ rank rowid → row_at rowid (before ++ rest) ≡ row_at rowid rest
there_behind rowid bound [] rest lower from = refl
there_behind rowid bound (r ∷ rs) rest lower from =
    let first = All-head (IsLower bound) r rs lower in
    rw (other_rowid r.0 rowid (inl (omega (arith, first, from)))) (there_behind rowid bound rs rest (All-tail (IsLower bound) r rs lower) from)

none_there : (rowid : ℤ) (bound : ℕ) (after : List (ℤ × List ℕ)) → AreHigher bound after → rank rowid < bound → row_at rowid after ≡ None
none_there rowid bound [] higher to = refl
none_there rowid bound (r ∷ rs) higher to =
    let first = All-head (IsHigher bound) r rs higher in
    rw (other_rowid r.0 rowid (inr (omega (arith, first, to)))) (none_there rowid bound rs (All-tail (IsHigher bound) r rs higher) to)

there_before : (rowid : ℤ) (bound : ℕ) (part after : List (ℤ × List ℕ)) → AreHigher bound after → rank rowid < bound → row_at rowid (part ++ after) ≡ row_at rowid part
there_before rowid bound [] after higher to = none_there rowid bound after higher to
there_before rowid bound (r ∷ rs) after higher to = elim (cases_Bool (int_eq r.0 rowid)) [
  | inl same ↦ rw same refl
  | inr other ↦ rw other (there_before rowid bound rs after higher to)
]

pub row_there : RowIsThere
row_there low high part part' whole whole' rowid becomes from to =
    ap (row_at rowid) becomes.old ∙ there_behind rowid low becomes.before (part ++ becomes.after) becomes.lower from
    ∙ there_before rowid high part becomes.after becomes.higher to

abbrev HasLower : Cell → Cell → Type 0
HasLower cell d = rank d.key < rank cell.key

abbrev HasHigher : Cell → Cell → Type 0
HasHigher cell d = rank cell.key < rank d.key

tail_placed : (usable : ℕ) (pages : Paging) (low high : ℕ) (c : Cell) (before : List Cell) (cell : Cell) (after : List Cell)
    → IsPlaced usable pages low high (c ∷ before) cell after → IsPlaced usable pages (rank c.key + 1) high before cell after
tail_placed usable pages low high c before cell after placed = record {
  rows = placed.rows.3;
  lower = All-tail (HasLower cell) c before placed.lower;
  higher = placed.higher;
  from = let first = All-head (HasLower cell) c before placed.lower in omega (arith, first);
  to = placed.to;
  chain = placed.chain;
}

rows_behind : (usable : ℕ) (pages : Paging) (low high : ℕ) (cell : Cell) (after : List Cell) → AreRows usable pages low high after
    → All (HasHigher cell) after → rank cell.key < high → AreRows usable pages (rank cell.key + 1) high after
rows_behind usable pages low high cell [] rows higher to = omega (arith, to)
rows_behind usable pages low high cell (d ∷ ds) rows higher to =
    let first = All-head (HasHigher cell) d ds higher in (omega (arith, first), rows.1, rows.2, rows.3)

rows_with : (usable : ℕ) (pages : Paging) (low high : ℕ) (before : List Cell) (cell : Cell) (after : List Cell) → IsPlaced usable pages low high before cell after
    → AreRows usable pages low high (before ++ (cell ∷ after))
rows_with usable pages low high [] cell after placed =
    (placed.from, placed.to, placed.chain, rows_behind usable pages low high cell after placed.rows placed.higher placed.to)
rows_with usable pages low high (c ∷ cs) cell after placed =
    (placed.rows.0, placed.rows.1, placed.rows.2, rows_with usable pages (rank c.key + 1) high cs cell after (tail_placed usable pages low high c cs cell after placed))

first_row : (usable : ℕ) (pages : Paging) (cell : Cell) (after : List Cell) → All (HasHigher cell) after
    → rows_of usable pages (cell ∷ after) ≡ with_row cell.key (payload_of usable pages cell) (rows_of usable pages after)
first_row usable pages cell [] higher = refl
first_row usable pages cell (d ∷ ds) higher = rw (lt-ltb (rank cell.key) (rank d.key) (All-head (HasHigher cell) d ds higher)) refl

row_with : (usable : ℕ) (pages : Paging) (before : List Cell) (cell : Cell) (after : List Cell) → All (HasLower cell) before → All (HasHigher cell) after
    → rows_of usable pages (before ++ (cell ∷ after)) ≡ with_row cell.key (payload_of usable pages cell) (rows_of usable pages (before ++ after))
row_with usable pages [] cell after lower higher = first_row usable pages cell after higher
row_with usable pages (c ∷ cs) cell after lower higher =
    let first = All-head (HasLower cell) c cs lower in
    rw (le-ltb (rank cell.key) (rank c.key) (omega (arith, first)), row_with usable pages cs cell after (All-tail (HasLower cell) c cs lower) higher) refl

no_row_behind : (usable : ℕ) (pages : Paging) (cell : Cell) (after : List Cell) → All (HasHigher cell) after → row_at cell.key (rows_of usable pages after) ≡ None
no_row_behind usable pages cell [] higher = refl
no_row_behind usable pages cell (d ∷ ds) higher =
    rw (other_rowid d.key cell.key (inr (All-head (HasHigher cell) d ds higher))) (no_row_behind usable pages cell ds (All-tail (HasHigher cell) d ds higher))

pub no_row : (usable : ℕ) (pages : Paging) (before : List Cell) (cell : Cell) (after : List Cell) → All (HasLower cell) before → All (HasHigher cell) after
    → row_at cell.key (rows_of usable pages (before ++ after)) ≡ None
no_row usable pages [] cell after lower higher = no_row_behind usable pages cell after higher
no_row usable pages (c ∷ cs) cell after lower higher =
    rw (other_rowid c.key cell.key (inl (All-head (HasLower cell) c cs lower))) (no_row usable pages cs cell after (All-tail (HasLower cell) c cs lower) higher)

-- what one cell more among others adds
pub one_more : (own : Cell → List ℕ) (before : List Cell) (cell : Cell) (after : List Cell)
    → AreSame (flat_map own (before ++ (cell ∷ after))) (own cell ++ flat_map own (before ++ after))
one_more own [] cell after n = refl
one_more own (c ∷ cs) cell after n =
    count (times n (own c ++ flat_map own (cs ++ (cell ∷ after)))) (times n (own c)) (times n (own cell)) (times n (flat_map own (cs ++ after)))
    (times n (flat_map own (cs ++ (cell ∷ after)))) (times n (own cell ++ flat_map own (cs ++ after))) (times n (own c ++ flat_map own (cs ++ after)))
    (times n (own cell ++ (own c ++ flat_map own (cs ++ after))))
    (times-append n (own c) (flat_map own (cs ++ (cell ∷ after)))) (one_more own cs cell after n) (times-append n (own cell) (flat_map own (cs ++ after)))
    (times-append n (own c) (flat_map own (cs ++ after))) (times-append n (own cell) (own c ++ flat_map own (cs ++ after)))
  where
    count : (all a b c bc bc' ac bac : ℕ) → all ≡ a + bc → bc ≡ bc' → bc' ≡ b + c → ac ≡ a + c → bac ≡ b + ac → all ≡ bac
    count all a b c bc bc' ac bac e f g h i = omega (arith, e, f, g, h, i)

pub cell_adds_row : CellAddsRow
cell_adds_row usable pages low high before cell after placed = record {
  rows = rows_with usable pages low high before cell after placed;
  with_it = row_with usable pages before cell after placed.lower placed.higher;
  new = no_row usable pages before cell after placed.lower placed.higher;
  chains = one_more (chain_pages usable pages) before cell after;
}

-- Marks of the rows of open tables, and what rows of the schema stand for.
use Rattle.std.proofs.Common.{◌≡◌, ℕ, ℤ, ◌≤◌, List, [], ◌∷◌, length, map, refl, sym, ap, subst, ◌∙◌, true, false, Result, Ok, Err, ⊎_elim}
use Rattle.std.specs.Prelude.{not, is_some}
use Rattle.std.proofs.lemmas.Bool.{and_parts, cases_Bool, le-leb, leb-true, not-true}
use Rattle.spe_model.specs.declared.value.Value.{Value}
use Rattle.spe_model.specs.declared.table.TableDef.{TableDef}
use Rattle.spe_model.specs.declared.record.RecordFault.{RecordFault}
use Rattle.spe_model.specs.Database.{Object, Other, Row, Table}
use Rattle.spe_model.specs.Paging.{Paging}
use Rattle.spe_model.specs.Record.{record_of}
use Rattle.spe_model.specs.Schema.{SchemaRow, is_table_row}
use Rattle.spe_model.specs.Standing.{AreTableRows, IsObjectOf, shown}
use Rattle.spe_model.specs.Verdict.{LeafRow, fits, is_open, own_marks, schema_rows, table_in}
use Rattle.spe_verdict.proofs.ShapeLemmas.{placeless}
use Rattle.spe_verdict.proofs.TableLemmas.{NamesNone, OwnKept}

abbrev pub values_in : Result (List Value) RecordFault → List Value
values_in (Ok values) = values
values_in (Err fault) = []

-- a row of a table as it is shown
abbrev pub shown_row : TableDef → ℤ × List ℕ → Row
shown_row table r = (r.0, shown table r.0 (values_in (record_of r.1)))

-- each row has a record of at most so many fields
abbrev pub FitAll : (columns : ℕ) → List (ℤ × List ℕ) → Type 0
FitAll columns [] = Unit {0}
FitAll columns (r ∷ rs) = (fits columns (record_of r.1) ≡ true) × FitAll columns rs

fits_row : (columns : ℕ) (found : Result (List Value) RecordFault) → fits columns found ≡ true → (found ≡ Ok (values_in found)) × (length (values_in found) ≤ columns)
fits_row columns (Ok values) fit = (refl, leb-true (length values) columns fit)
fits_row columns (Err fault) fit = absurd cc

row_fits : (columns : ℕ) (found : Result (List Value) RecordFault) (values : List Value) → found ≡ Ok values → length values ≤ columns → fits columns found ≡ true
row_fits columns found values is few = ap (fits columns) is ∙ le-leb (length values) columns few

rows_shown : (table : TableDef) (stored : List (ℤ × List ℕ)) → FitAll (length table.columns) stored → AreTableRows table stored (map (shown_row table) stored)
rows_shown table [] fit = tt
rows_shown table (r ∷ rs) fit =
    let row = fits_row (length table.columns) (record_of r.1) fit.0 in
    ((values_in (record_of r.1), row.0, row.1, refl), rows_shown table rs fit.1)

rows_fit : (table : TableDef) (stored : List (ℤ × List ℕ)) (found : List Row) → AreTableRows table stored found → FitAll (length table.columns) stored
rows_fit table [] found are = tt
rows_fit table (x ∷ xs) [] are = absurd are
rows_fit table (x ∷ xs) (r ∷ rs) are = (row_fits (length table.columns) (record_of x.1) are.0.0 are.0.1 are.0.2, rows_fit table xs rs are.1)

-- a table has these rows and no others
pub rows_are : (table : TableDef) (stored : List (ℤ × List ℕ)) (found : List Row) → AreTableRows table stored found → found ≡ map (shown_row table) stored
rows_are table [] [] are = refl
rows_are table [] (r ∷ rs) are = absurd are
rows_are table (x ∷ xs) [] are = absurd are
rows_are table (x ∷ xs) (r ∷ rs) are =
    let values : are.0.0 ≡ values_in (record_of x.1) = sym (ap values_in are.0.1) in
    let row : r ≡ shown_row table x = are.0.3 ∙ ap (λ (vs : List Value). (x.0, shown table x.0 vs)) values in
    let rest = rows_are table xs rs are.1 in
    rw (row, rest) refl

-- a row of the schema stands for an object, where its rows fit if it is an open table
pub object_of : (usable : ℕ) (pages : Paging) (row : SchemaRow) (stored : List (ℤ × List ℕ))
    → (is_open usable pages row ≡ true → FitAll (length (table_in usable pages row).columns) stored)
    → (object : Object) × IsObjectOf usable pages (schema_rows usable pages) row stored object
object_of usable pages row stored fit =
    let table = table_in usable pages row in
    ⊎_elim
    (λ (is : is_table_row row ≡ true). ⊎_elim
    (λ (shut : is_some (table_in usable pages row).closed ≡ true). (Table table [], (is, refl, rw shut refl)))
    (λ (free : is_some (table_in usable pages row).closed ≡ false).
    let is_free : is_open usable pages row ≡ true = rw (is, free) refl in
    (Table table (map (shown_row table) stored), (is, refl, rw free (rows_shown table stored (fit is_free)))))
    (cases_Bool (is_some (table_in usable pages row).closed)))
    (λ (is : is_table_row row ≡ false). (Other row.type row.name row.tbl_name, (is, refl, refl, refl)))
    (cases_Bool (is_table_row row))

pub fit_of_object : (usable : ℕ) (pages : Paging) (row : SchemaRow) (stored : List (ℤ × List ℕ)) (object : Object)
    → IsObjectOf usable pages (schema_rows usable pages) row stored object → is_open usable pages row ≡ true → FitAll (length (table_in usable pages row).columns) stored
fit_of_object usable pages row stored (Table table found) is free =
    let parts = and_parts (is_table_row row) (not (is_some (table_in usable pages row).closed)) free in
    let closed : is_some table.closed ≡ false = ap (λ (t : TableDef). is_some t.closed) is.1 ∙ not-true (is_some (table_in usable pages row).closed) parts.1 in
    let rows : AreTableRows table stored found = rw closed at is.2 in
    subst (λ (t : TableDef). FitAll (length t.columns) stored) is.1 (rows_fit table stored found rows)
fit_of_object usable pages row stored (Other kind name on) is free =
    let parts = and_parts (is_table_row row) (not (is_some (table_in usable pages row).closed)) free in
    let both : true ≡ false = sym parts.0 ∙ is.0 in
    absurd cc

pub own_fit : (usable : ℕ) (pages : Paging) (row : SchemaRow) (found : List LeafRow)
    → is_open usable pages row ≡ true → OwnKept (own_marks usable pages row) found → FitAll (length (table_in usable pages row).columns) (map placeless found)
own_fit usable pages row [] free kept = tt
own_fit usable pages row (r ∷ rs) free kept =
    let first : (fits (length (table_in usable pages row).columns) (record_of r.2) ≡ true) × Unit {0} = rw free at kept.0 in
    (first.0, own_fit usable pages row rs free kept.1)

fit_own_open : (usable : ℕ) (pages : Paging) (row : SchemaRow) (found : List LeafRow)
    → is_open usable pages row ≡ true → FitAll (length (table_in usable pages row).columns) (map placeless found) → OwnKept (own_marks usable pages row) found
fit_own_open usable pages row [] free fit = tt
fit_own_open usable pages row (r ∷ rs) free fit = (rw free (fit.0, tt), fit_own_open usable pages row rs free fit.1)

fit_own_shut : (usable : ℕ) (pages : Paging) (row : SchemaRow) (found : List LeafRow) → is_open usable pages row ≡ false → OwnKept (own_marks usable pages row) found
fit_own_shut usable pages row [] shut = tt
fit_own_shut usable pages row (r ∷ rs) shut = (rw shut tt, fit_own_shut usable pages row rs shut)

pub fit_own : (usable : ℕ) (pages : Paging) (row : SchemaRow) (found : List LeafRow)
    → (is_open usable pages row ≡ true → FitAll (length (table_in usable pages row).columns) (map placeless found)) → OwnKept (own_marks usable pages row) found
fit_own usable pages row found fit = ⊎_elim
    (λ (free : is_open usable pages row ≡ true). fit_own_open usable pages row found free (fit free))
    (λ (shut : is_open usable pages row ≡ false). fit_own_shut usable pages row found shut)
    (cases_Bool (is_open usable pages row))

pub own_none : (usable : ℕ) (pages : Paging) (row : SchemaRow) → NamesNone (own_marks usable pages row)
own_none usable pages row leaf rowid payload = ⊎_elim
    (λ (free : is_open usable pages row ≡ true). rw free refl)
    (λ (shut : is_open usable pages row ≡ false). rw shut refl)
    (cases_Bool (is_open usable pages row))

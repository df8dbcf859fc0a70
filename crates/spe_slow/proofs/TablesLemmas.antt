-- Tables of a database by their places.
use Rattle.std.proofs.Common.{◌≡◌, ℕ, zero, suc, ◌+◌, ◌<◌, ◌≤◌, ◌++◌, replicate, Bool, true, false, List, [], ◌∷◌, length, map, get_or, set, refl, sym, ap, ◌∙◌, arith, Option, Some, None}
use Rattle.std.specs.Prelude.{ℤ, pos, position, nat_lt, if◌then◌else◌}
use Rattle.std.specs.List.{find, position_or_len, enumerate_from}
use Rattle.std.specs.BTreeMap.{BTreeMap}
use Rattle.std.proofs.lemmas.Option.{same_Some, none-some, slice_get_past}
use Rattle.std.proofs.lemmas.List.{map-append}
use Rattle.std.proofs.lemmas.List.Folds.{find_at}
use Rattle.spe_model.specs.declared.value.Value.{Value}
use Rattle.spe_model.specs.declared.table.TableDef.{TableDef}
use Rattle.spe_model.specs.Agree.{agree}
use Rattle.spe_model.specs.Database.{Database, Row, Table, Other}
use Rattle.spe_model.specs.Rows.{table_named, with_rows}
use Rattle.spe_slow.specs.Tables.{is_table, without_rows, tables_from, held_rows}

-- the rows that a table has are put back
same_by : (b : Bool) (name : List ℕ) (rowid : ℤ) (first : TableDef) (held : List Row) (others : Database) (table : TableDef) (rows : List Row)
    → (if b then Some (first, held) else table_named name others) ≡ Some (table, rows) → (table_named name others ≡ Some (table, rows) → with_rows name rows others ≡ others)
    → (if b then (rowid, Table first rows) ∷ others else (rowid, Table first held) ∷ with_rows name rows others) ≡ (rowid, Table first held) ∷ others
same_by true name rowid first held others table rows e rest = ap (λ (x : TableDef × List Row). (rowid, Table first x.1) ∷ others) (sym (same_Some (first, held) (table, rows) e))
same_by false name rowid first held others table rows e rest = ap (λ xs. (rowid, Table first held) ∷ xs) (rest e)

pub with_same : (name : List ℕ) (db : Database) (table : TableDef) (rows : List Row) → table_named name db ≡ Some (table, rows) → with_rows name rows db ≡ db
with_same name [] table rows e = absurd (none-some (table, rows) e)
with_same name ((rowid, Table first held) ∷ others) table rows e = same_by (agree first.name name) name rowid first held others table rows e (λ f. with_same name others table rows f)
with_same name ((rowid, Other kind named on) ∷ others) table rows e = ap (λ xs. (rowid, Other kind named on) ∷ xs) (with_same name others table rows e)

-- the first table of the name is named
pub named_at : (name : List ℕ) (n : ℕ) (tables : List TableDef) (rows : List (List Row)) (i : ℕ) (d : TableDef) (e : List Row) → length rows ≡ length tables
    → i < length tables → is_table name (get_or tables i d) ≡ true → ((k : ℕ) → k < i → is_table name (get_or tables k d) ≡ false)
    → table_named name (tables_from n tables rows) ≡ Some (get_or tables i d, get_or rows i e)
named_at name n [] rows i d e same within here before = absurd (omega arith)
named_at name n (t ∷ tables) [] i d e same within here before = absurd (omega arith)
named_at name n (t ∷ tables) (r ∷ rows) zero d e same within here before = rw here refl
named_at name n (t ∷ tables) (r ∷ rows) (suc i) d e same within here before =
    rw (before 0 (omega arith)) (named_at name (n + 1) tables rows i d e (omega arith) (omega arith) here (λ k l. before (suc k) (omega arith)))

-- its rows are put in its place
pub with_at : (name : List ℕ) (new : List Row) (n : ℕ) (tables : List TableDef) (rows : List (List Row)) (i : ℕ) (d : TableDef) → length rows ≡ length tables
    → i < length tables → is_table name (get_or tables i d) ≡ true → ((k : ℕ) → k < i → is_table name (get_or tables k d) ≡ false)
    → with_rows name new (tables_from n tables rows) ≡ tables_from n tables (set rows i new)
with_at name new n [] rows i d same within here before = absurd (omega arith)
with_at name new n (t ∷ tables) [] i d same within here before = absurd (omega arith)
with_at name new n (t ∷ tables) (r ∷ rows) zero d same within here before = rw here refl
with_at name new n (t ∷ tables) (r ∷ rows) (suc i) d same within here before =
    rw (before 0 (omega arith))
    (ap (λ xs. (pos n, Table t r) ∷ xs) (with_at name new (n + 1) tables rows i d (omega arith) (omega arith) here (λ k l. before (suc k) (omega arith))))

-- no table has the name
none_by : (b : Bool) (name : List ℕ) (t : TableDef) (held : List Row) (found : Option TableDef) (rest : Option (TableDef × List Row)) → (if b then Some t else found) ≡ None
    → (found ≡ None → rest ≡ None) → (if b then Some (t, held) else rest) ≡ None
none_by true name t held found rest e f = absurd (none-some t (sym e))
none_by false name t held found rest e f = f e

unnamed : (name : List ℕ) (n : ℕ) (tables : List TableDef) (rows : List (List Row)) → find (is_table name) tables ≡ None → table_named name (tables_from n tables rows) ≡ None
unnamed name n [] rows e = refl
unnamed name n (t ∷ tables) [] e = refl
unnamed name n (t ∷ tables) (r ∷ rows) e =
    none_by (is_table name t) name t r (find (is_table name) tables) (table_named name (tables_from (n + 1) tables rows)) e (λ f. unnamed name (n + 1) tables rows f)

not_within : (place len : ℕ) → (if nat_lt place len then Some place else None) ≡ None → len ≤ place
not_within place len e = grind arith

pub unnamed_at : (name : List ℕ) (n : ℕ) (tables : List TableDef) (rows : List (List Row)) → position (is_table name) tables ≡ None → table_named name (tables_from n tables rows) ≡ None
unnamed_at name n tables rows e =
    unnamed name n tables rows
    (find_at (is_table name) tables ∙ slice_get_past tables (position_or_len (is_table name) tables) (not_within (position_or_len (is_table name) tables) (length tables) e))

-- maps without rows
replicate_push : {X : Type 0} (x : X) (i : ℕ) → replicate i x ++ x ∷ [] ≡ replicate (suc i) x
replicate_push x zero = refl
replicate_push x (suc i) = ap (λ xs. x ∷ xs) (replicate_push x i)

pub no_rows_more : (found : List (BTreeMap ℤ (List Value))) (m : BTreeMap ℤ (List Value)) (i : ℕ) → m.entries ≡ [] → held_rows found ≡ replicate i [] → held_rows (found ++ m ∷ []) ≡ replicate (i + 1) []
no_rows_more found m i empty e =
    let next : i + 1 ≡ suc i = omega arith in
    map-append (λ (x : BTreeMap ℤ (List Value)). x.entries) found (m ∷ [])
    ∙ ap (λ rows. rows ++ m.entries ∷ []) e ∙ ap (λ (r : List Row). replicate i [] ++ r ∷ []) empty
    ∙ replicate_push [] i ∙ ap (λ k. replicate k []) (sym next)

without_from : (n : ℕ) (tables : List TableDef) (count : ℕ) → count ≡ length tables
    → tables_from n tables (replicate count []) ≡ map (λ (x : ℕ × TableDef). (pos x.0, Table x.1 [])) (enumerate_from n tables)
without_from n [] count e = refl
without_from n (t ∷ tables) zero e = absurd (omega arith)
without_from n (t ∷ tables) (suc count) e = ap (λ xs. (pos n, Table t []) ∷ xs) (without_from (n + 1) tables count (omega arith))

pub no_rows_yet : (tables : List TableDef) (rows : List (List Row)) (count : ℕ) → count ≡ length tables → rows ≡ replicate count [] → tables_from 1 tables rows ≡ without_rows tables
no_rows_yet tables rows count all e = rw e (without_from 1 tables count all)

-- Why a statement is refused.
use Rattle.std.specs.Prelude.{ℕ, ℤ, pos, Bool, true, false, not, ◌&&◌, ◌||◌, ◌==◌, nat_lt, List, [], ◌∷◌, length, map, slice_get, Option, is_some, is_none}
use Rattle.std.specs.List.{find, zip, list_any, enumerate_from}
use Rattle.std.specs.Option.{option_map_or}
use Rattle.std.specs.Ordering.{int_eq}
use Rattle.spe_model.specs.declared.value.Value.{Value}
use Rattle.spe_model.specs.declared.value.Value.TheVariants.{Null, Int, Text, Blob, Real8}
use Rattle.spe_model.specs.declared.table.Affinity.{Affinity}
use Rattle.spe_model.specs.declared.table.Affinity.TheVariants as affinities
use Rattle.spe_model.specs.declared.table.Column.{Column}
use Rattle.spe_model.specs.declared.table.TableDef.{TableDef}
use Rattle.spe_model.specs.declared.statement.Cond.{Cond}
use Rattle.spe_model.specs.declared.statement.Statement.{Statement}
use Rattle.spe_model.specs.declared.transaction.TxKind.{TxKind}
use Rattle.spe_model.specs.declared.reply.Refusal.{Refusal}
use Rattle.spe_model.specs.declared.reply.Refusal.TheVariants.{ReadOnly, NoTable, ClosedTable, NoColumn, NotByRowid, Count, Class, NotNull, RowidFixed, RowidTaken, RowidsUsedUp, TooLarge}
use Rattle.spe_model.specs.declared.naming.Named.TheVariants as named
use Rattle.spe_model.specs.Database.{Database, Row}
use Rattle.spe_model.specs.Alias.{is_alias}
use Rattle.spe_model.specs.Statement.{table_name, is_write, is_insert, is_update, is_read_only, conds_of, names_of}
use Rattle.spe_model.specs.Naming.{meant_by, is_nothing, is_column}
use Rattle.spe_model.specs.Assigned.{Assignment, targets, given_values, assignments, has_twice, given_to, by_column, given_rowid}
use Rattle.spe_model.specs.Rows.{table_named, largest, written}
use Rattle.spe_model.specs.Length.{record_length}

-- a name is neither a column nor a name of the rowid
unfoldable pub has_unknown_name : TableDef → Statement → Bool
has_unknown_name table s = list_any (λ name. is_nothing (meant_by table name)) (names_of s)

-- a condition is on a column that is not the rowid
unfoldable pub has_column_condition : TableDef → Statement → Bool
has_column_condition table s = list_any (λ (c : Cond). is_column (meant_by table c.name)) (conds_of s)

-- there are not as many values as places for them, or one place gets two
unfoldable pub is_miscounted : TableDef → Statement → Bool
is_miscounted table s = not (length (targets table s) == length (given_values s)) || has_twice (targets table s)

-- a value that the rowid does not take: any but a whole number and NULL
abbrev pub is_misfit_rowid : Value → Bool
is_misfit_rowid Null = false
is_misfit_rowid (Int n) = false
is_misfit_rowid _ = true

-- the affinities that would convert a text, and those that would convert a number
abbrev pub is_numeric : Affinity → Bool
is_numeric affinities.Integer = true
is_numeric affinities.Numeric = true
is_numeric affinities.Real = true
is_numeric _ = false

abbrev pub converts_number : Affinity → Bool
converts_number affinities.Text = true
converts_number affinities.Real = true
converts_number _ = false

-- a value that a column of an affinity does not take: one that it would convert, or a float
abbrev pub is_misfit_column : Affinity → Value → Bool
is_misfit_column affinity Null = false
is_misfit_column affinity (Int n) = converts_number affinity
is_misfit_column affinity (Text text) = is_numeric affinity
is_misfit_column affinity (Blob bytes) = false
is_misfit_column affinity (Real8 bytes) = true

abbrev pub is_misfit : TableDef → Assignment → Bool
is_misfit table (named.Rowid, value) = is_misfit_rowid value
is_misfit table (named.Column place, value) = option_map_or (λ (c : Column). is_misfit_column c.affinity value) (slice_get table.columns place) false
is_misfit table (named.Nothing, value) = false

-- a value is given to a column, or to the rowid, that does not take its class
unfoldable pub has_misfit : TableDef → Statement → Bool
has_misfit table s = list_any (is_misfit table) (assignments table s)

abbrev pub is_null : Value → Bool
is_null Null = true
is_null _ = false

-- which columns take no NULL: those that are NOT NULL, unless they are the rowid
abbrev pub required : TableDef → List Bool
required table = map (λ (x : ℕ × Column). x.1.not_null && not (is_alias table.alias x.0)) (enumerate_from 0 table.columns)

-- such a column is given NULL, or is left without a value by INSERT
unfoldable pub has_null : TableDef → Statement → Bool
has_null table s =
    list_any (λ (x : Bool × Option Value). x.0 && option_map_or is_null x.1 (is_insert s)) (zip (required table) (by_column table (assignments table s)))

-- UPDATE sets the rowid
unfoldable pub sets_rowid : TableDef → Statement → Bool
sets_rowid table s = is_update s && is_some (given_to named.Rowid (assignments table s))

-- INSERT gives a rowid that a row has
unfoldable pub is_rowid_taken : TableDef → List Row → Statement → Bool
is_rowid_taken table rows s =
    is_insert s && option_map_or (λ rowid. list_any (λ (r : Row). int_eq r.0 rowid) rows) (given_rowid (assignments table s)) false

abbrev pub last_rowid : ℤ
last_rowid = pos 9223372036854775807

-- INSERT gives no rowid, and none is above the largest
unfoldable pub are_rowids_used_up : TableDef → List Row → Statement → Bool
are_rowids_used_up table rows s =
    is_insert s && is_none (given_rowid (assignments table s)) && option_map_or (int_eq last_rowid) (largest rows) false

abbrev pub most_record : ℕ
most_record = 1000000

-- a row that is to be written has a longer record than any may have
unfoldable pub is_too_large : TableDef → List Row → Statement → Bool
is_too_large table rows s = list_any (λ (r : Row). nat_lt most_record (record_length table.alias r.1)) (written table rows s)

-- whether a table with these rows gives cause for a refusal, whatever others it gives cause for
abbrev pub table_refuses : TableDef → List Row → Statement → Refusal → Bool
table_refuses table rows s ReadOnly = false
table_refuses table rows s NoTable = false
table_refuses table rows s ClosedTable = is_some table.closed
table_refuses table rows s NoColumn = has_unknown_name table s
table_refuses table rows s NotByRowid = has_column_condition table s
table_refuses table rows s Count = is_miscounted table s
table_refuses table rows s Class = has_misfit table s
table_refuses table rows s NotNull = has_null table s
table_refuses table rows s RowidFixed = sets_rowid table s
table_refuses table rows s RowidTaken = is_rowid_taken table rows s
table_refuses table rows s RowidsUsedUp = are_rowids_used_up table rows s
table_refuses table rows s TooLarge = is_too_large table rows s

-- whether there is cause for a refusal, whatever others there are
abbrev pub refuses : TxKind → Database → Statement → Refusal → Bool
refuses kind db s ReadOnly = is_read_only kind && is_write s
refuses kind db s NoTable = is_none (table_named (table_name s) db)
refuses kind db s refusal = option_map_or (λ (t : TableDef × List Row). table_refuses t.0 t.1 s refusal) (table_named (table_name s) db) false

-- the refusals by their numbers, the lowest first
abbrev pub refusals : List Refusal
refusals = ReadOnly ∷ NoTable ∷ ClosedTable ∷ NoColumn ∷ NotByRowid ∷ Count ∷ Class ∷ NotNull ∷ RowidFixed ∷ RowidTaken ∷ RowidsUsedUp ∷ TooLarge ∷ []

-- the lowest refusal for which there is cause
abbrev pub refusal_of : TxKind → Database → Statement → Option Refusal
refusal_of kind db s = find (refuses kind db s) refusals

-- The rows of the schema table ("Storage Of The SQL Database Schema" in SQLite's Database File Format), and the tables that they name.
use Rattle.std.specs.Prelude.{ℕ, ℤ, pos, negsuc, Bool, false, not, ◌&&◌, ◌==◌, List, [], ◌∷◌, take, map, Option, Some, None, codes, find, filter, slice_index}
use Rattle.std.specs.List.{list_any}
use Rattle.std.specs.Result.{result_ok}
use Rattle.std.specs.Str.{bytes_eq}
use Rattle.spe_model.specs.Agree.{agree}
use Rattle.spe_model.specs.declared.value.Value.{Value}
use Rattle.spe_model.specs.declared.value.Value.TheVariants.{Null, Int, Text}
use Rattle.spe_model.specs.declared.page.Kind.{Kind}
use Rattle.spe_model.specs.declared.table.Column.{Column}
use Rattle.spe_model.specs.declared.table.Closed.{Closed}
use Rattle.spe_model.specs.declared.table.Closed.TheVariants.{Reserved, Definition, Indexed, Triggered}
use Rattle.spe_model.specs.declared.table.TableDef.{TableDef}
use Rattle.spe_model.specs.declared.catalog.Declaration.{Declaration}
use Rattle.spe_model.specs.declared.catalog.Entry.{Entry}
use Rattle.spe_model.specs.Cell.{◌>>=◌}
use Rattle.spe_model.specs.Kind.{kind_of, is_table}
use Rattle.spe_model.specs.Record.{record_of}
use Rattle.spe_model.specs.Paging.{Paging}
use Rattle.spe_model.specs.Tree.{header_end}
use Rattle.spe_model.specs.Definition.{are_distinct, declaration_of, names_of}

-- what the record of a schema row says; `rootpage` and `sql` may be NULL
pub record SchemaRow : Type 0 where
  pub rowid : ℤ
  pub type : List ℕ
  pub name : List ℕ
  pub tbl_name : List ℕ
  pub rootpage : Option ℤ
  pub sql : Option (List ℕ)

abbrev pub root_in : Value → Option (Option ℤ)
root_in Null = Some None
root_in (Int n) = Some (Some n)
root_in _ = None

abbrev pub sql_in : Value → Option (Option (List ℕ))
sql_in Null = Some None
sql_in (Text t) = Some (Some t)
sql_in _ = None

-- the row of these values, or None where they are not five of the right kinds
abbrev pub schema_row : ℤ → List Value → Option SchemaRow
schema_row rowid (Text type ∷ Text name ∷ Text tbl_name ∷ root ∷ text ∷ []) = do
  rootpage ← root_in root
  sql ← sql_in text
  Some (record { rowid = rowid; type = type; name = name; tbl_name = tbl_name; rootpage = rootpage; sql = sql })
schema_row rowid _ = None

-- the row of a rowid and a payload
abbrev pub schema_row_of : ℤ × List ℕ → Option SchemaRow
schema_row_of r = result_ok (record_of r.1) >>= schema_row r.0

-- all of these rows, or None where one of them is no schema row
abbrev pub schema_of : List (ℤ × List ℕ) → Option (List SchemaRow)
schema_of [] = Some []
schema_of (r ∷ rs) = do
  first ← schema_row_of r
  others ← schema_of rs
  Some (first ∷ others)

abbrev pub is_of_type : List ℕ → SchemaRow → Bool
is_of_type type row = bytes_eq row.type type

abbrev pub is_table_row : SchemaRow → Bool
is_table_row row = is_of_type (codes "table") row

-- an object of this type that belongs to the table of this name
abbrev pub is_on : (type table : List ℕ) → SchemaRow → Bool
is_on type table row = is_of_type type row && agree row.tbl_name table

-- the page of a root: 0 where there is none
abbrev pub root_of : Option ℤ → ℕ
root_of None = 0
root_of (Some (pos n)) = n
root_of (Some (negsuc n)) = 0

abbrev pub declaration_in : SchemaRow → Option Declaration
declaration_in row = row.sql >>= declaration_of

abbrev pub columns_in : Option Declaration → List Column
columns_in None = []
columns_in (Some declaration) = declaration.columns

abbrev pub alias_in : Option Declaration → Option ℕ
alias_in None = None
alias_in (Some declaration) = declaration.alias

-- a text is understood, and no two of its columns have one name
abbrev pub is_declared : Option Declaration → Bool
is_declared None = false
is_declared (Some declaration) = are_distinct (names_of declaration.columns)

-- a table has a root, which is no page of an index
abbrev pub is_rooted : (is_index : ℕ → Bool) → Option ℤ → Bool
is_rooted is_index root = not (root_of root == 0) && not (is_index (root_of root))

-- names of SQLite's own tables begin so
abbrev pub is_own_name : List ℕ → Bool
is_own_name name = agree (take 7 name) (codes "sqlite_")

-- whether a table is closed for this reason, whatever other reasons there are, among these rows of the schema
unfoldable pub is_closed_by : (is_index : ℕ → Bool) → List SchemaRow → SchemaRow → Closed → Bool
is_closed_by is_index rows row Reserved = is_own_name row.name
is_closed_by is_index rows row Definition = not (is_declared (declaration_in row) && is_rooted is_index row.rootpage)
is_closed_by is_index rows row Indexed = list_any (is_on (codes "index") row.name) rows
is_closed_by is_index rows row Triggered = list_any (is_on (codes "trigger") row.name) rows

-- the reasons by their numbers, the lowest first
abbrev pub reasons : List Closed
reasons = Reserved ∷ Definition ∷ Indexed ∷ Triggered ∷ []

-- The table of a row. A closed one keeps the columns that its text declares, where that is understood.
abbrev pub table_of : (is_index : ℕ → Bool) → List SchemaRow → SchemaRow → TableDef
table_of is_index rows row = record {
  name = row.name;
  columns = columns_in (declaration_in row);
  alias = alias_in (declaration_in row);
  closed = find (is_closed_by is_index rows row) reasons;
}

abbrev pub entry_of : (is_index : ℕ → Bool) → List SchemaRow → SchemaRow → Entry
entry_of is_index rows row = record { table = table_of is_index rows row; root = root_of row.rootpage }

-- the tables that the rows name, open and closed, in the order of their rows
abbrev pub catalog_of : (is_index : ℕ → Bool) → List SchemaRow → List Entry
catalog_of is_index rows = map (entry_of is_index rows) (filter is_table_row rows)

-- no two tables have one name
abbrev pub have_own_names : List SchemaRow → Bool
have_own_names rows = are_distinct (map (λ (row : SchemaRow). row.name) (filter is_table_row rows))

abbrev pub is_index_kind : Option Kind → Bool
is_index_kind None = false
is_index_kind (Some kind) = not (is_table kind)

-- whether a page is one of an index, by its type byte
abbrev pub is_index_page : Paging → ℕ → Bool
is_index_page pages page = is_index_kind (kind_of (slice_index (pages page) (header_end page)))

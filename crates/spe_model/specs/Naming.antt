-- What names mean in a table.
use Rattle.std.specs.Prelude.{ℕ, Bool, true, false, ◌==◌, ◌||◌, List, codes, position, if◌then◌else◌}
use Rattle.std.specs.Option.{option_map_or}
use Rattle.spe_model.specs.Agree.{agree}
use Rattle.spe_model.specs.declared.table.Column.{Column}
use Rattle.spe_model.specs.declared.table.TableDef.{TableDef}
use Rattle.spe_model.specs.declared.naming.Named.{Named}
use Rattle.spe_model.specs.declared.naming.Named.TheVariants as named
use Rattle.spe_model.specs.Alias.{is_alias}

-- the names that the rowid has in every table
unfoldable pub is_rowid_name : List ℕ → Bool
is_rowid_name name = agree name (codes "rowid") || agree name (codes "_rowid_") || agree name (codes "oid")

-- what the column at a place is: itself, or the rowid
abbrev pub column_at : TableDef → ℕ → Named
column_at table place = if is_alias table.alias place then named.Rowid else named.Column place

abbrev pub has_name : List ℕ → Column → Bool
has_name name c = agree c.name name

-- what a name means: a column's own name goes before the names of the rowid
unfoldable pub meant_by : TableDef → List ℕ → Named
meant_by table name =
    option_map_or (column_at table) (position (has_name name) table.columns) (if is_rowid_name name then named.Rowid else named.Nothing)

abbrev pub is_nothing : Named → Bool
is_nothing named.Nothing = true
is_nothing _ = false

abbrev pub is_column : Named → Bool
is_column (named.Column place) = true
is_column _ = false

-- both mean the rowid, or the same column
abbrev pub is_same : Named → Named → Bool
is_same named.Rowid named.Rowid = true
is_same (named.Column a) (named.Column b) = a == b
is_same _ _ = false

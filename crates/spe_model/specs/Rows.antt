-- Tables of a database by their names, and the rows that statements choose, show and write.
use Rattle.std.specs.Prelude.{ℕ, ℤ, pos, ◌+ℤ◌, Bool, List, [], ◌∷◌, ◌++◌, filter, map, slice_get, Option, Some, None, int_lt, if◌then◌else◌}
use Rattle.std.specs.List.{zip, last_or}
use Rattle.std.specs.Option.{option_map, option_map_or, unwrap_or}
use Rattle.spe_model.specs.Agree.{agree}
use Rattle.spe_model.specs.declared.value.Value.{Value}
use Rattle.spe_model.specs.declared.value.Value.TheVariants.{Null, Int}
use Rattle.spe_model.specs.declared.table.TableDef.{TableDef}
use Rattle.spe_model.specs.declared.statement.Statement.{Statement}
use Rattle.spe_model.specs.declared.statement.Statement.TheVariants.{Insert, Update}
use Rattle.spe_model.specs.declared.naming.Named.{Named}
use Rattle.spe_model.specs.declared.naming.Named.TheVariants as named
use Rattle.spe_model.specs.Database.{Database, Row, Table, Other}
use Rattle.spe_model.specs.Alias.{with_alias}
use Rattle.spe_model.specs.Naming.{meant_by}
use Rattle.spe_model.specs.Conditions.{chosen}
use Rattle.spe_model.specs.Assigned.{Assignment, assignments, by_column, given_rowid}

-- the table of a name, with its rows
abbrev pub table_named : List ℕ → Database → Option (TableDef × List Row)
table_named name [] = None
table_named name ((rowid, Table table rows) ∷ others) = if agree table.name name then Some (table, rows) else table_named name others
table_named name ((rowid, Other kind named on) ∷ others) = table_named name others

-- the database with these rows in the table of a name
abbrev pub with_rows : List ℕ → List Row → Database → Database
with_rows name new [] = []
with_rows name new ((rowid, Table table rows) ∷ others) =
    if agree table.name name then (rowid, Table table new) ∷ others else (rowid, Table table rows) ∷ with_rows name new others
with_rows name new ((rowid, Other kind named on) ∷ others) = (rowid, Other kind named on) ∷ with_rows name new others

-- what a name stands for in a row
abbrev pub shown : Row → Named → Value
shown r named.Rowid = Int r.0
shown r (named.Column place) = unwrap_or (slice_get r.1 place) Null
shown r named.Nothing = Null

-- all the values of a row, or those that are named
abbrev pub selected : TableDef → Bool → List (List ℕ) → Row → List Value
selected table all columns r = if all then r.1 else map (shown r) (map (meant_by table) columns)

-- rows ascend, so the last has the largest rowid
abbrev pub largest : List Row → Option ℤ
largest rows = option_map (λ (r : Row). r.0) (last_or None rows)

-- the rowid of a new row to which none is given
abbrev pub next_rowid : List Row → ℤ
next_rowid rows = option_map_or (λ n. n +ℤ pos 1) (largest rows) (pos 1)

-- a new row has what is given, or else NULL, and its rowid in the column that is another name of it
abbrev pub new_row : TableDef → List Row → List Assignment → Row
new_row table rows given =
    let rowid = unwrap_or (given_rowid given) (next_rowid rows) in
    (rowid, with_alias table.alias (Int rowid) (map (λ value. unwrap_or value Null) (by_column table given)))

-- a changed row has what is given, or else what it had
abbrev pub changed_row : TableDef → List Assignment → Row → Row
changed_row table given r = (r.0, map (λ (x : Option Value × Value). unwrap_or x.0 x.1) (zip (by_column table given) r.1))

-- the rows that a statement writes
abbrev pub written : TableDef → List Row → Statement → List Row
written table rows (Insert name listed columns values) = new_row table rows (assignments table (Insert name listed columns values)) ∷ []
written table rows (Update name sets conds) = map (changed_row table (assignments table (Update name sets conds))) (chosen conds rows)
written table rows _ = []

-- the rows with a new one between those below and those above
abbrev pub with_row : Row → List Row → List Row
with_row new rows = filter (λ r. int_lt r.0 new.0) rows ++ new ∷ filter (λ r. int_lt new.0 r.0) rows

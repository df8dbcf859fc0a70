-- The values of rows that are shown and written.
use Rattle.std.specs.Prelude.{ℤ, Bool, List, map, Option, if◌then◌else◌}
use Rattle.std.specs.List.{zip}
use Rattle.std.specs.Option.{unwrap_or}
use Rattle.spe_model.specs.declared.value.Value.{Value}
use Rattle.spe_model.specs.declared.value.Value.TheVariants.{Null, Int}
use Rattle.spe_model.specs.declared.naming.Named.{Named}
use Rattle.spe_model.specs.declared.table.TableDef.{TableDef}
use Rattle.spe_model.specs.declared.statement.Statement.{Statement}
use Rattle.spe_model.specs.Alias.{with_alias}
use Rattle.spe_model.specs.Assigned.{assignments, by_column}
use Rattle.spe_model.specs.Database.{Row}
use Rattle.spe_model.specs.Rows.{shown}

-- the values of a row, all or what names stand for
abbrev pub shown_values : Bool → List Named → Row → List Value
shown_values all names r = if all then r.1 else map (shown r) names

-- a new row has what is given, or else NULL, and its rowid in the column that is another name of it
abbrev pub new_values : TableDef → Statement → ℤ → List Value
new_values table s rowid = with_alias table.alias (Int rowid) (map (λ value. unwrap_or value Null) (by_column table (assignments table s)))

-- a changed row has what is given, or else what it had
abbrev pub changed_values : List (Option Value) → List Value → List Value
changed_values given values = map (λ (x : Option Value × Value). unwrap_or x.0 x.1) (zip given values)

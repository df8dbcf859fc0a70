-- What a statement gives to the columns of its table and to the rowid.
use Rattle.std.specs.Prelude.{ℕ, ℤ, Bool, false, ◌||◌, List, [], ◌∷◌, length, map, Option, Some, None, if◌then◌else◌}
use Rattle.std.specs.List.{find, zip, list_any, range_with_len}
use Rattle.std.specs.Option.{option_map, option_and_then}
use Rattle.spe_model.specs.declared.value.Value.{Value}
use Rattle.spe_model.specs.declared.value.Value.TheVariants.{Int}
use Rattle.spe_model.specs.declared.table.TableDef.{TableDef}
use Rattle.spe_model.specs.declared.statement.Set.{Set}
use Rattle.spe_model.specs.declared.statement.Statement.{Statement}
use Rattle.spe_model.specs.declared.statement.Statement.TheVariants.{Insert, Update}
use Rattle.spe_model.specs.declared.naming.Named.{Named}
use Rattle.spe_model.specs.declared.naming.Named.TheVariants as named
use Rattle.spe_model.specs.Naming.{column_at, meant_by, is_same}

-- the places of the columns
abbrev pub places : TableDef → List ℕ
places table = range_with_len 0 (length table.columns)

-- a value, and what it is given to
abbrev pub Assignment : Type 0
Assignment = Named × Value

abbrev pub set_value : Set → Value
set_value s = s.value

-- what is given a value: in INSERT the columns that are listed, or all
abbrev pub targets : TableDef → Statement → List Named
targets table (Insert name listed columns values) = if listed then map (meant_by table) columns else map (column_at table) (places table)
targets table (Update name sets conds) = map (λ (s : Set). meant_by table s.name) sets
targets table _ = []

-- the values that are given
abbrev pub given_values : Statement → List Value
given_values (Insert name listed columns values) = values
given_values (Update name sets conds) = map set_value sets
given_values _ = []

abbrev pub assignments : TableDef → Statement → List Assignment
assignments table s = zip (targets table s) (given_values s)

-- the rowid, or a column, stands twice among them
abbrev pub has_twice : List Named → Bool
has_twice [] = false
has_twice (t ∷ ts) = list_any (is_same t) ts || has_twice ts

abbrev pub is_to : Named → Assignment → Bool
is_to target a = is_same a.0 target

-- the value that is given to a column or to the rowid, if one is
abbrev pub given_to : Named → List Assignment → Option Value
given_to target given = option_map (λ (a : Assignment). a.1) (find (is_to target) given)

-- what is given to each column
abbrev pub by_column : TableDef → List Assignment → List (Option Value)
by_column table given = map (λ place. given_to (named.Column place) given) (places table)

abbrev pub whole_number : Value → Option ℤ
whole_number (Int n) = Some n
whole_number _ = None

-- the number that is given to the rowid: where NULL is, there is none
abbrev pub given_rowid : List Assignment → Option ℤ
given_rowid given = option_and_then whole_number (given_to named.Rowid given)

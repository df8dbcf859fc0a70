-- The rows of a table, as the payloads of its tree say them.
use Rattle.std.specs.Prelude.{◌≡◌, ℕ, ℤ, List, [], ◌∷◌, length, nat_le, Option, Some, None, Result, Ok, Err, if◌then◌else◌}
use Rattle.std.specs.List.{Contains}
use Rattle.std.specs.Result.{result_map_both}
use Rattle.spe_model.specs.declared.value.Value.{Value}
use Rattle.spe_model.specs.declared.table.TableDef.{TableDef}
use Rattle.spe_model.specs.declared.record.RecordFault.{RecordFault}
use Rattle.spe_model.specs.Database.{Row}
use Rattle.spe_model.specs.Record.{record_of}
use Rattle.spe_model.specs.Standing.{shown}
use Rattle.spe_search.specs.declared.pairs.Pair.{Pair}
use Rattle.spe_search.specs.Pairs.{pair_seen}

-- a row by its record: nothing where that is damaged or has more fields than the table columns
abbrev pub row_by : TableDef → ℤ → Result (List Value) RecordFault → Option Row
row_by table rowid (Ok values) = if nat_le (length values) (length table.columns) then Some (rowid, shown table rowid values) else None
row_by table rowid (Err fault) = None

-- the row that is stored as this rowid and this payload
abbrev pub row_of : TableDef → ℤ × List ℕ → Option Row
row_of table stored = row_by table stored.0 (record_of stored.1)

-- a row before others; the leaf that it was read from, where it is damaged
abbrev pub row_before : (leaf : ℕ) → Option Row → Result (List Row) ℕ → Result (List Row) ℕ
row_before leaf None others = Err leaf
row_before leaf (Some row) others = result_map_both (λ rows. row ∷ rows) (λ damaged. damaged) others

-- the rows that are stored so, or the leaf of the first that is damaged or has too many fields
abbrev pub rows_stored : TableDef → List Pair → Result (List Row) ℕ
rows_stored table [] = Ok []
rows_stored table (x ∷ xs) = row_before x.leaf (row_of table (pair_seen x)) (rows_stored table xs)

-- a row among these is damaged or has too many fields, and was read from this leaf
pub record HasDamaged (table : TableDef) (rows : List Pair) (leaf : ℕ) : Type 0 where
  pub row : Pair
  pub among : Contains rows row
  pub leaf_is : row.leaf ≡ leaf
  pub bad : row_of table (pair_seen row) ≡ None

-- The rows of a table as their payloads say them.
use Rattle.std.specs.Prelude.{◌≡◌, ℕ, ℤ, Bool, List, ◌++◌, length, map, nat_le, Option, Some, None, Result, Ok, Err, if◌then◌else◌}
use Rattle.std.specs.List.{Contains}
use Rattle.spe_model.specs.declared.value.Value.{Value}
use Rattle.spe_model.specs.declared.table.TableDef.{TableDef}
use Rattle.spe_model.specs.declared.naming.Named.{Named}
use Rattle.spe_model.specs.declared.record.RecordFault.{RecordFault}
use Rattle.spe_model.specs.Database.{Row}
use Rattle.spe_model.specs.Record.{record_of}
use Rattle.spe_model.specs.Standing.{shown, AreTableRows}
use Rattle.spe_slow.specs.Rows.{shown_values}
use Rattle.spe_search.specs.declared.pairs.Pair.{Pair}
use Rattle.spe_search.specs.Pairs.{pair_seen}
use Rattle.spe_exec.specs.declared.select.Shown.{Shown}
use Rattle.spe_exec.specs.declared.select.Shown.TheVariants.{Rows, Damage}

-- what a record says of a row: nothing where it is damaged or has more fields than the table columns
abbrev pub values_by : TableDef → ℤ → Result (List Value) RecordFault → Option (List Value)
values_by table rowid (Ok values) = if nat_le (length values) (length table.columns) then Some (shown table rowid values) else None
values_by table rowid (Err fault) = None

-- the values of a row, which has this rowid and payload
abbrev pub values_in : TableDef → ℤ × List ℕ → Option (List Value)
values_in table stored = values_by table stored.0 (record_of stored.1)

-- a row that was read from this leaf has a record that no row of the table may have
pub record IsDamaged (table : TableDef) (stored : List Pair) (leaf : ℕ) : Type 0 where
  pub row : Pair
  pub inside : Contains stored row
  pub leaf_is : row.leaf ≡ leaf
  pub none : values_in table (pair_seen row) ≡ None

-- what is shown of rows that are stored so
abbrev pub Shows : TableDef → Bool → List Named → List Pair → Shown → Type 0
Shows table all names stored (Rows shown) = (rows : List Row) → AreTableRows table (map pair_seen stored) rows → shown.items ≡ map (shown_values all names) rows
Shows table all names stored (Damage leaf) = IsDamaged table stored leaf

-- rows that are left, with what was made of those before them
pub record IsLeft (table : TableDef) (all : Bool) (names : List Named) (left : List (ℤ × List ℕ)) (rows : List Row) (made : List (List Value)) : Type 0 where
  pub others : List Row
  pub others_are : AreTableRows table left others
  pub made_is : made ++ map (shown_values all names) others ≡ map (shown_values all names) rows

-- in a loop over the rows: those up to here are shown
pub record IsShowing (table : TableDef) (all : Bool) (names : List Named) (stored left : List Pair) (made : List (List Value)) : Type 0 where
  pub done : List Pair
  pub split : stored ≡ done ++ left
  pub shown : (rows : List Row) → AreTableRows table (map pair_seen stored) rows → IsLeft table all names (map pair_seen left) rows made

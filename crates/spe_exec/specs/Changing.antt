-- The records of rows that an UPDATE changes.
use Rattle.std.specs.Prelude.{◌≡◌, ℕ, ℤ, ◌+◌, true, false, Bool, List, [], ◌∷◌, ◌++◌, length, map, nat_lt, All, Option, None}
use Rattle.std.specs.List.{list_any}
use Rattle.spe_model.specs.declared.table.TableDef.{TableDef}
use Rattle.spe_model.specs.declared.value.Value.{Value}
use Rattle.spe_model.specs.Alias.{is_alias}
use Rattle.spe_model.specs.Database.{Row}
use Rattle.spe_model.specs.Length.{record_length}
use Rattle.spe_model.specs.Refusals.{most_record}
use Rattle.spe_model.specs.Standing.{AreTableRows, IsTableRow}
use Rattle.spe_slow.specs.Rows.{changed_values}
use Rattle.spe_modify.specs.declared.rows.StoredRow.{StoredRow}
use Rattle.spe_modify.specs.Rows.{IsShort, stored_of}
use Rattle.spe_exec.specs.declared.changing.Change.{Change}
use Rattle.spe_exec.specs.declared.changing.Change.TheVariants as one
use Rattle.spe_exec.specs.declared.changing.Changes.{Changes}
use Rattle.spe_exec.specs.declared.changing.Changes.TheVariants as all

-- from a place on, the column that is another name of the rowid is given nothing
abbrev pub IsFreeFrom : (alias : Option ℕ) (place : ℕ) → List (Option Value) → Type 0
IsFreeFrom alias place [] = Unit {0}
IsFreeFrom alias place (g ∷ gs) = (is_alias alias place ≡ true → g ≡ None) × IsFreeFrom alias (place + 1) gs

-- what is given to each column of a table, nothing to the rowid
pub record IsGiven (table : TableDef) (given : List (Option Value)) : Type 0 where
  pub free : IsFreeFrom table.alias 0 given
  pub each : length given ≡ length table.columns

-- a row with what is given
abbrev pub changed : List (Option Value) → Row → Row
changed given r = (r.0, changed_values given r.1)

abbrev pub is_long : TableDef → Row → Bool
is_long table r = nat_lt most_record (record_length table.alias r.1)

-- the record of a row
pub record IsRecordFor (table : TableDef) (stored : StoredRow) (row : Row) : Type 0 where
  pub size : length stored.record ≡ record_length table.alias row.1
  pub small : is_long table row ≡ false
  pub stands : IsTableRow table (stored_of stored) row

abbrev pub AreRecords : TableDef → List StoredRow → List Row → Type 0
AreRecords table [] [] = Unit {0}
AreRecords table [] (r ∷ rs) = ⊥
AreRecords table (s ∷ ss) [] = ⊥
AreRecords table (s ∷ ss) (r ∷ rs) = IsRecordFor table s r × AreRecords table ss rs

-- a stored row becomes this record, or its record would be too long, or it is none of the table
abbrev pub IsChange : TableDef → List (Option Value) → ℤ × List ℕ → Change → Type 0
IsChange table given x (one.Record stored) = (row : Row) → IsTableRow table x row → IsRecordFor table stored (changed given row)
IsChange table given x one.Long = (row : Row) → IsTableRow table x row → is_long table (changed given row) ≡ true
IsChange table given x one.Damage = (row : Row) → IsTableRow table x row → ⊥

-- the same of all
abbrev pub AreChanges : TableDef → List (Option Value) → List (ℤ × List ℕ) → Changes → Type 0
AreChanges table given xs (all.Records stored) = (rows : List Row) → AreTableRows table xs rows → AreRecords table stored.items (map (changed given) rows)
AreChanges table given xs all.Long = (rows : List Row) → AreTableRows table xs rows → list_any (is_long table) (map (changed given) rows) ≡ true
AreChanges table given xs (all.Damage leaf) = (rows : List Row) → AreTableRows table xs rows → ⊥

-- in the loop: records for some of the rows, and the rows that are left
pub record IsGathered (table : TableDef) (given : List (Option Value)) (left : List (ℤ × List ℕ)) (made : List StoredRow) (rows : List Row) : Type 0 where
  pub front : List Row
  pub others : List Row
  pub split : rows ≡ front ++ others
  pub are : AreTableRows table left others
  pub records : AreRecords table made (map (changed given) front)

abbrev pub IsGathering : TableDef → List (Option Value) → (xs left : List (ℤ × List ℕ)) (made : List StoredRow) → Type 0
IsGathering table given xs left made = (rows : List Row) → AreTableRows table xs rows → IsGathered table given left made rows

-- records that a cell can have
abbrev pub IsShortChange : Change → Type 0
IsShortChange (one.Record stored) = IsShort stored
IsShortChange one.Long = Unit {0}
IsShortChange one.Damage = Unit {0}

abbrev pub AreShortChanges : Changes → Type 0
AreShortChanges (all.Records stored) = All IsShort stored.items
AreShortChanges all.Long = Unit {0}
AreShortChanges (all.Damage leaf) = Unit {0}

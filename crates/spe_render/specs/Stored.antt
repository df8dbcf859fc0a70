-- The rows of a table, as the payloads of its tree say them, and the line of one.
use Rattle.std.specs.Prelude.{◌≡◌, ℕ, ℤ, Bool, true, false, List, [], length, map, nat_le, Option, Some, None, Result, Ok, Err, if◌then◌else◌}
use Rattle.std.specs.List.{enumerate_from}
use Rattle.spe_model.specs.declared.value.Value.{Value}
use Rattle.spe_model.specs.declared.value.Value.TheVariants.{Null, Int}
use Rattle.spe_model.specs.declared.table.TableDef.{TableDef}
use Rattle.spe_model.specs.declared.record.RecordFault.{RecordFault}
use Rattle.spe_model.specs.Alias.{is_alias}
use Rattle.spe_model.specs.Database.{Row}
use Rattle.spe_model.specs.Record.{record_of}
use Rattle.spe_model.specs.Standing.{shown}
use Rattle.spe_record.specs.declared.fields.Field.{Field}
use Rattle.spe_record.specs.Fields.{field_seen}
use Rattle.spe_render.specs.Passes.{Passes}
use Rattle.spe_render.specs.Values.{row_text}

-- a row by its record: nothing where that is damaged or has more fields than the table columns
abbrev pub row_by : TableDef → ℤ → Result (List Value) RecordFault → Option Row
row_by table rowid (Ok values) = if nat_le (length values) (length table.columns) then Some (rowid, shown table rowid values) else None
row_by table rowid (Err fault) = None

-- the row that is stored as this rowid and this payload
abbrev pub row_of : TableDef → ℤ → List ℕ → Option Row
row_of table rowid payload = row_by table rowid (record_of payload)

-- the line of a row was printed, or there is none and nothing was
abbrev pub PutsRow : (taken now : Option (List ℕ)) (faults faults_now : ℕ) (printer printer_now : Option (List ℕ)) → Option Row → Bool → Type 0
PutsRow taken now faults faults_now printer printer_now None result = (result ≡ false) × Passes taken now faults faults_now printer printer_now []
PutsRow taken now faults faults_now printer printer_now (Some row) result = (result ≡ true) × Passes taken now faults faults_now printer printer_now (row_text row)

-- a value, or NULL where there is none
abbrev pub or_null : Option Field → Value
or_null None = Null
or_null (Some field) = field_seen field

-- what is shown at a place
abbrev pub put_at : (alias : Option ℕ) (place : ℕ) → ℤ → Option Field → Value
put_at alias place rowid field = if is_alias alias place then Int rowid else or_null field

-- what is shown of these values from a place on
abbrev pub shown_from : (alias : Option ℕ) (place : ℕ) → ℤ → List Value → List Value
shown_from alias place rowid values = map (λ (x : ℕ × Value). if is_alias alias x.0 then Int rowid else x.1) (enumerate_from place values)

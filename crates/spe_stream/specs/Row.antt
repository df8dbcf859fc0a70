-- The rows of a table, as the payloads of its tree say them.
use Rattle.std.specs.Prelude.{ℕ, ℤ, List, [], ◌∷◌, Option, Some, None}
use Rattle.spe_model.specs.declared.table.TableDef.{TableDef}
use Rattle.spe_model.specs.Database.{Row}
use Rattle.spe_render.specs.Stored.{row_of as stored_row}

-- the row that is stored as this rowid and this payload
abbrev pub row_of : TableDef → ℤ × List ℕ → Option Row
row_of table stored = stored_row table stored.0 stored.1

-- the row, where there is one
abbrev pub rows_in : Option Row → List Row
rows_in None = []
rows_in (Some row) = row ∷ []

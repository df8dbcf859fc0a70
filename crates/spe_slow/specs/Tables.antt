-- Tables with their rows as a database: their schema rowids count from 1.
use Rattle.std.specs.Prelude.{ℕ, ℤ, pos, ◌+◌, Bool, ◌&&◌, List, [], ◌∷◌, map, position, Result, Ok, Err, if◌then◌else◌}
use Rattle.std.specs.List.{enumerate_from}
use Rattle.std.specs.Option.{option_map_or}
use Rattle.std.specs.BTreeMap.{BTreeMap}
use Rattle.spe_model.specs.declared.value.Value.{Value}
use Rattle.spe_model.specs.declared.table.TableDef.{TableDef}
use Rattle.spe_model.specs.declared.statement.Statement.{Statement}
use Rattle.spe_model.specs.declared.transaction.TxKind.{TxKind}
use Rattle.spe_model.specs.declared.reply.Refusal.{Refusal}
use Rattle.spe_model.specs.declared.reply.Refusal.TheVariants.{ReadOnly, NoTable}
use Rattle.spe_model.specs.Agree.{agree}
use Rattle.spe_model.specs.Statement.{table_name, is_write, is_read_only}
use Rattle.spe_model.specs.Database.{Database, Row, Table}

-- the rows in maps
abbrev pub held_rows : List (BTreeMap ℤ (List Value)) → List (List Row)
held_rows maps = map (λ (m : BTreeMap ℤ (List Value)). m.entries) maps

abbrev pub is_table : List ℕ → TableDef → Bool
is_table name table = agree table.name name

-- the place of the table that a statement names, or the refusal that goes before those of a table
abbrev pub table_for : TxKind → List TableDef → Statement → Result ℕ Refusal
table_for kind tables s =
    if is_read_only kind && is_write s then Err ReadOnly else option_map_or (λ place. Ok place) (position (is_table (table_name s)) tables) (Err NoTable)

-- tables with their rows, the first of which has this schema rowid
abbrev pub tables_from : ℕ → List TableDef → List (List Row) → Database
tables_from n [] rows = []
tables_from n (table ∷ tables) [] = []
tables_from n (table ∷ tables) (held ∷ rows) = (pos n, Table table held) ∷ tables_from (n + 1) tables rows

-- tables without rows
abbrev pub without_rows : List TableDef → Database
without_rows tables = map (λ (x : ℕ × TableDef). (pos x.0, Table x.1 [])) (enumerate_from 1 tables)

-- What a statement means: the database after it, and the reply. Nothing here knows of pages.
use Rattle.std.specs.Prelude.{not, List, [], ◌∷◌, length, map, filter, Option, Some, None, if◌then◌else◌}
use Rattle.spe_model.specs.declared.table.TableDef.{TableDef}
use Rattle.spe_model.specs.declared.statement.Statement.{Statement}
use Rattle.spe_model.specs.declared.statement.Statement.TheVariants.{Select, Count, Insert, Update, Delete}
use Rattle.spe_model.specs.declared.transaction.TxKind.{TxKind}
use Rattle.spe_model.specs.declared.transaction.Tx.{Tx}
use Rattle.spe_model.specs.declared.reply.Refusal.{Refusal}
use Rattle.spe_model.specs.declared.reply.Refusal.TheVariants as refusals
use Rattle.spe_model.specs.declared.reply.Reply.{Reply}
use Rattle.spe_model.specs.declared.reply.Reply.TheVariants as replies
use Rattle.spe_model.specs.Database.{Database, Row}
use Rattle.spe_model.specs.Statement.{table_name, is_write}
use Rattle.spe_model.specs.Conditions.{is_chosen, chosen}
use Rattle.spe_model.specs.Assigned.{assignments}
use Rattle.spe_model.specs.Rows.{table_named, with_rows, selected, new_row, changed_row, with_row}
use Rattle.spe_model.specs.Refusals.{refusal_of}

-- the rows of a table after a statement that is not refused
abbrev pub rows_after : TableDef → List Row → Statement → List Row
rows_after table rows (Select name all columns conds) = rows
rows_after table rows (Count name conds) = rows
rows_after table rows (Insert name listed columns values) = with_row (new_row table rows (assignments table (Insert name listed columns values))) rows
rows_after table rows (Update name sets conds) =
    map (λ (r : Row). if is_chosen conds r.0 then changed_row table (assignments table (Update name sets conds)) r else r) rows
rows_after table rows (Delete name conds) = filter (λ (r : Row). not (is_chosen conds r.0)) rows

-- the reply to it
abbrev pub reply_to : TableDef → List Row → Statement → Reply
reply_to table rows (Select name all columns conds) = replies.Rows (map (selected table all columns) (chosen conds rows))
reply_to table rows (Count name conds) = replies.Count (length (chosen conds rows))
reply_to table rows (Insert name listed columns values) = replies.Inserted (new_row table rows (assignments table (Insert name listed columns values))).0
reply_to table rows (Update name sets conds) = replies.Changed (length (chosen conds rows))
reply_to table rows (Delete name conds) = replies.Changed (length (chosen conds rows))

-- only a write changes the database
abbrev pub database_after : TableDef → List Row → Database → Statement → Database
database_after table rows db s = if is_write s then with_rows (table_name s) (rows_after table rows s) db else db

-- without a table there is always a refusal
abbrev pub accepted : Option (TableDef × List Row) → Database → Statement → Database × Reply
accepted None db s = (db, replies.Refused refusals.NoTable)
accepted (Some t) db s = (database_after t.0 t.1 db s, reply_to t.0 t.1 s)

-- a refusal leaves the database
abbrev pub answered : Option Refusal → Database → Statement → Database × Reply
answered (Some refusal) db s = (db, replies.Refused refusal)
answered None db s = accepted (table_named (table_name s) db) db s

-- the database after a statement in a transaction of a kind, and the reply
abbrev pub meaning : TxKind → Database → Statement → Database × Reply
meaning kind db s = answered (refusal_of kind db s) db s

-- the replies to statements, one after the other, and the last database
abbrev pub replies_from : TxKind → Database → List Statement → List Reply
replies_from kind db [] = []
replies_from kind db (s ∷ ss) = (meaning kind db s).1 ∷ replies_from kind (meaning kind db s).0 ss

abbrev pub result_from : TxKind → Database → List Statement → Database
result_from kind db [] = db
result_from kind db (s ∷ ss) = result_from kind (meaning kind db s).0 ss

-- the replies to the statements of a transaction
abbrev pub replies_of : Database → Tx → List Reply
replies_of db tx = replies_from tx.kind db tx.statements

-- the database that they leave
abbrev pub result_of : Database → Tx → Database
result_of db tx = result_from tx.kind db tx.statements

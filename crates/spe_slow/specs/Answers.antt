-- What the rows of a table become by a statement that names the table, and the reply.
use Rattle.std.specs.Prelude.{ℤ, pos, ◌+ℤ◌, Bool, List, [], ◌∷◌, nat_lt, Option, Some, None, Result, Ok, Err, if◌then◌else◌}
use Rattle.std.specs.List.{find, list_any}
use Rattle.std.specs.Option.{option_or}
use Rattle.std.specs.Ordering.{int_eq}
use Rattle.spe_model.specs.declared.table.TableDef.{TableDef}
use Rattle.spe_model.specs.declared.statement.Statement.{Statement}
use Rattle.spe_model.specs.declared.reply.Refusal.{Refusal}
use Rattle.spe_model.specs.declared.reply.Refusal.TheVariants.{RowidTaken, RowidsUsedUp, TooLarge}
use Rattle.spe_model.specs.declared.reply.Reply.{Reply}
use Rattle.spe_model.specs.declared.reply.Reply.TheVariants as replies
use Rattle.spe_model.specs.Database.{Row}
use Rattle.spe_model.specs.Length.{record_length}
use Rattle.spe_model.specs.Refusals.{table_refuses, most_record, last_rowid}
use Rattle.spe_model.specs.Rows.{largest, with_row}
use Rattle.spe_model.specs.Meaning.{rows_after, reply_to}
use Rattle.spe_slow.specs.Refused.{rowless_refusal}
use Rattle.spe_slow.specs.Rows.{new_values}

-- the lowest refusal for which the rows give cause
abbrev pub rows_refusal : TableDef → List Row → Statement → Option Refusal
rows_refusal table rows s = find (table_refuses table rows s) (RowidTaken ∷ RowidsUsedUp ∷ TooLarge ∷ [])

-- a refusal leaves the rows
abbrev pub answered_with : Option Refusal → TableDef → List Row → Statement → List Row × Reply
answered_with (Some refusal) table rows s = (rows, replies.Refused refusal)
answered_with None table rows s = (rows_after table rows s, reply_to table rows s)

-- what rows answer that only they may refuse
unfoldable pub rows_answer : TableDef → List Row → Statement → List Row × Reply
rows_answer table rows s = answered_with (rows_refusal table rows s) table rows s

-- what a table answers
unfoldable pub table_answer : TableDef → List Row → Statement → List Row × Reply
table_answer table rows s = answered_with (option_or (rowless_refusal table s) (rows_refusal table rows s)) table rows s

-- the rowid of a new row to which none is given, by the largest
abbrev pub rowid_after : Option ℤ → Result ℤ Refusal
rowid_after None = Ok (pos 1)
rowid_after (Some n) = if int_eq last_rowid n then Err RowidsUsedUp else Ok (n +ℤ pos 1)

abbrev pub is_taken : List Row → ℤ → Bool
is_taken rows rowid = list_any (λ (r : Row). int_eq r.0 rowid) rows

-- the rowid of a new row to which this is given, or none
abbrev pub rowid_for : List Row → Option ℤ → Result ℤ Refusal
rowid_for rows (Some n) = if is_taken rows n then Err RowidTaken else Ok n
rowid_for rows None = rowid_after (largest rows)

-- the rows with a new one of this rowid, unless its record is too long
abbrev pub inserted_at : TableDef → List Row → Statement → ℤ → List Row × Reply
inserted_at table rows s rowid =
    if nat_lt most_record (record_length table.alias (new_values table s rowid)) then (rows, replies.Refused TooLarge)
    else (with_row (rowid, new_values table s rowid) rows, replies.Inserted rowid)

-- What a statement means, by what the table that it names answers.
use Rattle.std.proofs.Common.{◌≡◌, Bool, true, false, ◌&&◌, List, [], ◌∷◌, refl, sym, ap, ◌∙◌, Option, Some, None}
use Rattle.std.specs.Prelude.{is_none, if◌then◌else◌}
use Rattle.std.specs.List.{find}
use Rattle.std.specs.Option.{option_or, option_map_or}
use Rattle.std.proofs.lemmas.List.Folds.{find-append}
use Rattle.spe_model.specs.declared.table.TableDef.{TableDef}
use Rattle.spe_model.specs.declared.statement.Statement.{Statement}
use Rattle.spe_model.specs.declared.statement.Statement.TheVariants.{Select, Count, Insert, Update, Delete}
use Rattle.spe_model.specs.declared.transaction.TxKind.{TxKind}
use Rattle.spe_model.specs.declared.reply.Refusal.{Refusal}
use Rattle.spe_model.specs.declared.reply.Refusal.TheVariants as refusals
use Rattle.spe_model.specs.declared.reply.Reply.TheVariants as replies
use Rattle.spe_model.specs.Database.{Database, Row}
use Rattle.spe_model.specs.Statement.{table_name, is_write, is_read_only}
use Rattle.spe_model.specs.Rows.{table_named, with_rows}
use Rattle.spe_model.specs.Refusals.{table_refuses, refusal_of}
use Rattle.spe_model.specs.Meaning.{rows_after, reply_to, database_after, accepted, answered, meaning}
use Rattle.spe_slow.specs.Refused.{rowless, rowless_refusal}
use Rattle.spe_slow.specs.Answers.{rows_refusal, answered_with, rows_answer, table_answer}
use Rattle.spe_slow.proofs.TablesLemmas.{with_same}

-- the refusal by whether a read-only transaction would write, and by the table that is named
abbrev refusal_by : Bool → Option (TableDef × List Row) → Statement → Option Refusal
refusal_by blocked named s =
    if blocked then Some refusals.ReadOnly
    else (if is_none named then Some refusals.NoTable
    else find (λ refusal. option_map_or (λ (t : TableDef × List Row). table_refuses t.0 t.1 s refusal) named false)
    (refusals.ClosedTable ∷ refusals.NoColumn ∷ refusals.NotByRowid ∷ refusals.Count ∷ refusals.Class ∷ refusals.NotNull ∷ refusals.RowidFixed ∷ refusals.RowidTaken ∷ refusals.RowidsUsedUp ∷ refusals.TooLarge ∷ []))

refusal_is_by : (kind : TxKind) (db : Database) (s : Statement) → refusal_of kind db s ≡ refusal_by (is_read_only kind && is_write s) (table_named (table_name s) db) s
refusal_is_by kind db s = refl

table_refusal : (table : TableDef) (rows : List Row) (s : Statement) → refusal_by false (Some (table, rows)) s ≡ option_or (rowless_refusal table s) (rows_refusal table rows s)
table_refusal table rows s = find-append (table_refuses table rows s) rowless (refusals.RowidTaken ∷ refusals.RowidsUsedUp ∷ refusals.TooLarge ∷ [])

-- a read-only transaction writes nothing
pub meaning_blocked : (kind : TxKind) (db : Database) (s : Statement) → (is_read_only kind && is_write s) ≡ true → meaning kind db s ≡ (db, replies.Refused refusals.ReadOnly)
meaning_blocked kind db s blocked =
    ap (λ o. answered o db s) (refusal_is_by kind db s ∙ ap (λ b. refusal_by b (table_named (table_name s) db) s) blocked)

-- no table has the name
pub meaning_unnamed : (kind : TxKind) (db : Database) (s : Statement) → (is_read_only kind && is_write s) ≡ false → table_named (table_name s) db ≡ None
    → meaning kind db s ≡ (db, replies.Refused refusals.NoTable)
meaning_unnamed kind db s free none =
    ap (λ o. answered o db s) (refusal_is_by kind db s ∙ ap (λ b. refusal_by b (table_named (table_name s) db) s) free ∙ ap (λ o. refusal_by false o s) none)

written_back : (table : TableDef) (rows : List Row) (db : Database) (s : Statement) → with_rows (table_name s) rows db ≡ db
    → database_after table rows db s ≡ with_rows (table_name s) (rows_after table rows s) db
written_back table rows db (Select name all columns conds) same = sym same
written_back table rows db (Count name conds) same = sym same
written_back table rows db (Insert name listed columns values) same = refl
written_back table rows db (Update name sets conds) same = refl
written_back table rows db (Delete name conds) same = refl

answered_by : (refusal : Option Refusal) (db : Database) (s : Statement) (table : TableDef) (rows : List Row) → table_named (table_name s) db ≡ Some (table, rows)
    → answered refusal db s ≡ (with_rows (table_name s) (answered_with refusal table rows s).0 db, (answered_with refusal table rows s).1)
answered_by (Some refusal) db s table rows named = ap (λ d. (d, replies.Refused refusal)) (sym (with_same (table_name s) db table rows named))
answered_by None db s table rows named =
    ap (λ o. accepted o db s) named
    ∙ ap (λ d. (d, reply_to table rows s)) (written_back table rows db s (with_same (table_name s) db table rows named))

-- the table of the name answers
pub meaning_named : (kind : TxKind) (db : Database) (s : Statement) (table : TableDef) (rows : List Row) → (is_read_only kind && is_write s) ≡ false
    → table_named (table_name s) db ≡ Some (table, rows) → meaning kind db s ≡ (with_rows (table_name s) (table_answer table rows s).0 db, (table_answer table rows s).1)
unfolding table_answer
meaning_named kind db s table rows free named =
    ap (λ o. answered o db s)
    (refusal_is_by kind db s ∙ ap (λ b. refusal_by b (table_named (table_name s) db) s) free ∙ ap (λ o. refusal_by false o s) named ∙ table_refusal table rows s)
    ∙ answered_by (option_or (rowless_refusal table s) (rows_refusal table rows s)) db s table rows named

-- a table's refusal goes before those of its rows
pub refused_by_table : (table : TableDef) (rows : List Row) (s : Statement) (refusal : Refusal) → rowless_refusal table s ≡ Some refusal → (rows, replies.Refused refusal) ≡ table_answer table rows s
unfolding table_answer
refused_by_table table rows s refusal e = sym (ap (λ o. answered_with (option_or o (rows_refusal table rows s)) table rows s) e)

pub left_to_rows : (table : TableDef) (rows : List Row) (s : Statement) → rowless_refusal table s ≡ None → rows_answer table rows s ≡ table_answer table rows s
unfolding table_answer rows_answer
left_to_rows table rows s e = sym (ap (λ o. answered_with (option_or o (rows_refusal table rows s)) table rows s) e)

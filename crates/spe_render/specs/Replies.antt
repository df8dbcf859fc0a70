-- The printed text of replies. It is this project's own.
use Rattle.std.specs.Prelude.{ℕ, ℤ, List, [], ◌∷◌, ◌++◌, codes, decimal, length}
use Rattle.std.specs.Fmt.{signed_decimal}
use Rattle.spe_model.specs.declared.value.Value.{Value}
use Rattle.spe_model.specs.declared.reply.Refusal.{Refusal}
use Rattle.spe_model.specs.declared.reply.Refusal.TheVariants as refusals
use Rattle.spe_model.specs.declared.reply.Reply.{Reply}
use Rattle.spe_model.specs.declared.reply.Reply.TheVariants.{Rows, Count, Changed, Inserted, Refused}
use Rattle.spe_render.specs.Values.{joined, line}

-- a line behind two blanks
abbrev pub indented : List ℕ → List ℕ
indented text = line (codes "  " ++ text)

-- a row of values that a statement asked for
abbrev pub shown_text : List Value → List ℕ
shown_text values = indented (codes "row " ++ joined values)

abbrev pub all_shown : List (List Value) → List ℕ
all_shown [] = []
all_shown (r ∷ rs) = shown_text r ++ all_shown rs

abbrev pub refusal_name : Refusal → List ℕ
refusal_name refusals.ReadOnly = codes "ReadOnly"
refusal_name refusals.NoTable = codes "NoTable"
refusal_name refusals.ClosedTable = codes "ClosedTable"
refusal_name refusals.NoColumn = codes "NoColumn"
refusal_name refusals.NotByRowid = codes "NotByRowid"
refusal_name refusals.Count = codes "Count"
refusal_name refusals.Class = codes "Class"
refusal_name refusals.NotNull = codes "NotNull"
refusal_name refusals.RowidFixed = codes "RowidFixed"
refusal_name refusals.RowidTaken = codes "RowidTaken"
refusal_name refusals.RowidsUsedUp = codes "RowidsUsedUp"
refusal_name refusals.TooLarge = codes "TooLarge"

-- the rows that a statement asked for, and how many they are
abbrev pub rows_reply : List (List Value) → List ℕ
rows_reply rows = all_shown rows ++ indented (codes "rows " ++ decimal (length rows))

abbrev pub inserted_reply : ℤ → List ℕ
inserted_reply rowid = indented (codes "inserted " ++ signed_decimal rowid)

abbrev pub refused_reply : Refusal → List ℕ
refused_reply refusal = indented (codes "error " ++ refusal_name refusal)

abbrev pub reply_text : Reply → List ℕ
reply_text (Rows rows) = rows_reply rows
reply_text (Count n) = indented (codes "count " ++ decimal n)
reply_text (Changed n) = indented (codes "changed " ++ decimal n)
reply_text (Inserted rowid) = inserted_reply rowid
reply_text (Refused refusal) = refused_reply refusal

abbrev pub replies_text : List Reply → List ℕ
replies_text [] = []
replies_text (r ∷ rs) = reply_text r ++ replies_text rs

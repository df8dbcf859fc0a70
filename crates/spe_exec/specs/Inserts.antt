-- What an INSERT does to an open table, whatever the pages below a space are, as long as they agree with what was given and
-- are served.
use Rattle.std.specs.Prelude.{◌≡◌, ℕ, ℤ, true, false, Bool, List, Option, None, Some, length, Result, Ok, Err, IfOk, IfErr, nat_lt, if◌then◌else◌}
use Rattle.spe_model.specs.declared.catalog.Entry.{Entry}
use Rattle.spe_model.specs.declared.reply.Refusal.{Refusal}
use Rattle.spe_model.specs.declared.reply.Refusal.TheVariants.{RowidTaken, TooLarge}
use Rattle.spe_model.specs.declared.reply.Reply.{Reply}
use Rattle.spe_model.specs.declared.reply.Reply.TheVariants as replies
use Rattle.spe_model.specs.declared.statement.Statement.{Statement}
use Rattle.spe_model.specs.declared.table.TableDef.{TableDef}
use Rattle.spe_model.specs.Assigned.{assignments}
use Rattle.spe_model.specs.Database.{Row}
use Rattle.spe_model.specs.Length.{record_length}
use Rattle.spe_model.specs.Paging.{Agrees, Paging}
use Rattle.spe_model.specs.Refusals.{most_record}
use Rattle.spe_model.specs.Rows.{largest, new_row, table_named, with_row, with_rows}
use Rattle.spe_model.specs.Standing.{IsTableRow}
use Rattle.spe_space.specs.declared.fault.TreeFault.{TreeFault}
use Rattle.spe_space.specs.declared.fault.TreeFault.TheVariants.{Space, Corrupt}
use Rattle.spe_space.specs.declared.pages.Pages.{Ghosts}
use Rattle.spe_space.specs.Calls.{Reads, sight}
use Rattle.spe_space.specs.Front.{number_in}
use Rattle.spe_space.specs.Outcome.{IsInside, OnCorrupt, OnPageOut}
use Rattle.spe_served.specs.Change.{IsServed, entry_named}
use Rattle.spe_served.specs.Lists.{ListsStand}
use Rattle.spe_slow.specs.Answers.{inserted_at, is_taken, rowid_after}
use Rattle.spe_slow.specs.Rows.{new_values}
use Rattle.spe_modify.specs.Row.{IsOpen, SparesOthers, TableOf}

-- whatever the pages are below the space, as long as they agree with what was given and the entry is that of an open table
abbrev pub WhereTable : {P : Type 0} (g : Ghosts P) (old new : P) (entry : Entry) → (Paging → TableOf → Type 0) → Type 0
WhereTable g old new entry What = (pages : Paging) (t : TableOf) → Agrees pages (g.seen new) → IsOpen g old pages entry.root t → t.entry ≡ entry → What pages t

-- The reply is that of what the table becomes, and the pages are served for the database with the table's new rows.
pub record Gives {P : Type 0} (g : Ghosts P) (new : P) (pages : Paging) (t : TableOf) (outcome : List Row × Reply) (reply : Reply) : Type 0 where
  pub reply_is : reply ≡ outcome.1
  pub served : IsServed g t.opening new pages (with_rows t.name outcome.0 t.db)

-- Of served pages none is called corrupt, and a page that is asked for in vain is one that there is. The space itself calls
-- one corrupt only of a get, before anything was put.
abbrev pub IsSound : {P : Type 0} (g : Ghosts P) (old new : P) (number : ℕ) → TreeFault → Type 0
IsSound g old new number (Space f) = OnPageOut (IsInside number) f × OnCorrupt (Reads g old new) f
IsSound g old new number (Corrupt page) = ⊥

-- The answer is that of what the table becomes; whatever it is, all that is in use apart from the table's tree stays, for a
-- record of so many bytes; and a fault is a sound one.
pub record Carries {P : Type 0} (g : Ghosts P) (old new : P) (pages : Paging) (t : TableOf) (size : ℕ) (outcome : List Row × Reply) (result : Result Reply TreeFault) : Type 0 where
  pub given : IfOk result (Gives g new pages t outcome)
  pub few : SparesOthers g old new pages t size
  pub likely : g.sealed old ≡ false → IfErr result (IsSound g old new (number_in (sight g new pages)))

-- a refusal puts nothing
abbrev pub is_refused : Reply → Bool
is_refused (replies.Refused refusal) = true
is_refused _ = false

abbrev pub IsIdle : {P : Type 0} (g : Ghosts P) (old new : P) → Result Reply TreeFault → Type 0
IsIdle g old new result = IfOk result (λ reply. is_refused reply ≡ true → Reads g old new)

-- the rows with a row put among them, unless its rowid is there
abbrev pub put_in : List Row → Row → List Row × Reply
put_in rows row = if is_taken rows row.0 then (rows, replies.Refused RowidTaken) else (with_row row rows, replies.Inserted row.0)

-- why a row with too long a record is refused, by whether its rowid is there
abbrev pub long_refusal : Bool → Refusal
long_refusal is_there = if is_there then RowidTaken else TooLarge

abbrev pub refused_long : List Row → ℤ → List Row × Reply
refused_long rows rowid = (rows, replies.Refused (long_refusal (is_taken rows rowid)))

-- the rows after an INSERT that gives this rowid
abbrev pub given_at : TableDef → List Row → Statement → ℤ → List Row × Reply
given_at table rows s rowid = if is_taken rows rowid then (rows, replies.Refused RowidTaken) else inserted_at table rows s rowid

-- the rows after an INSERT to whose row this rowid belongs, or none
abbrev pub inserted_by : TableDef → List Row → Statement → Result ℤ Refusal → List Row × Reply
inserted_by table rows s (Ok rowid) = inserted_at table rows s rowid
inserted_by table rows s (Err refusal) = (rows, replies.Refused refusal)

-- the rows after an INSERT that gives no rowid
abbrev pub next_at : TableDef → List Row → Statement → List Row × Reply
next_at table rows s = inserted_by table rows s (rowid_after (largest rows))

-- the bytes of the record of a new row with this rowid
abbrev pub length_at : TableDef → Statement → ℤ → ℕ
length_at table s rowid = record_length table.alias (new_values table s rowid)

-- the bytes of the record of the row that an INSERT means
abbrev pub record_size : TableDef → List Row → Statement → ℕ
record_size table rows s = record_length table.alias (new_row table rows (assignments table s)).1

-- the record of a new row with this rowid
pub record IsRecordOf (table : TableDef) (s : Statement) (rowid : ℤ) (bytes : List ℕ) : Type 0 where
  pub size : length bytes ≡ length_at table s rowid
  pub small : nat_lt most_record (length_at table s rowid) ≡ false
  pub row : IsTableRow table (rowid, bytes) (rowid, new_values table s rowid)

-- or none, where it would be longer than any may be
abbrev pub IsRecordOrNone : TableDef → Statement → ℤ → Option (List ℕ) → Type 0
IsRecordOrNone table s rowid None = nat_lt most_record (length_at table s rowid) ≡ true
IsRecordOrNone table s rowid (Some bytes) = IsRecordOf table s rowid bytes

-- A table of served pages, open or closed: what was read at the opening, the database, and the table's name, entry and rows
-- in it.
pub record IsNamed {P : Type 0} (g : Ghosts P) (s : P) (pages : Paging) (t : TableOf) : Type 0 where
  pub lists : ListsStand g
  pub served : IsServed g t.opening s pages t.db
  pub named : entry_named t.name t.opening.catalog ≡ Some t.entry
  pub found : table_named t.name t.db ≡ Some (t.entry.table, t.rows)

abbrev pub WhereNamed : {P : Type 0} (g : Ghosts P) (old new : P) (entry : Entry) → (Paging → TableOf → Type 0) → Type 0
WhereNamed g old new entry What = (pages : Paging) (t : TableOf) → Agrees pages (g.seen new) → IsNamed g old pages t → t.entry ≡ entry → What pages t

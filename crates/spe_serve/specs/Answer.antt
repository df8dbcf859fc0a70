-- Which answers are right: those of `check`, `rows`, `prepare` and `release` over the recovered pages of a database.
use Rattle.std.specs.Prelude.{◌≡◌, ℕ, ◌+◌, ◌-◌, ◌*◌, ◌^◌, ◌≤◌, nat_lt, Bool, true, false, List, length, take, Option, Some, None, Result, Ok, Err, if◌then◌else◌}
use Rattle.spe_model.specs.declared.file.FileNo.TheVariants as files
use Rattle.spe_model.specs.declared.recovery.RecoverFault.{RecoverFault}
use Rattle.spe_model.specs.declared.recovery.RecoverFault.TheVariants.{NotPrepared}
use Rattle.spe_model.specs.declared.table.Closed.{Closed}
use Rattle.spe_model.specs.declared.table.TableDef.{TableDef}
use Rattle.spe_model.specs.declared.verdict.Verdict.{Verdict}
use Rattle.spe_model.specs.declared.verdict.Verdict.TheVariants as verdicts
use Rattle.spe_model.specs.Content.{Content, file_of}
use Rattle.spe_model.specs.Database.{Database, Row}
use Rattle.spe_model.specs.FreeList.{names_node}
use Rattle.spe_model.specs.Header.{fields}
use Rattle.spe_model.specs.Paging.{Paging}
use Rattle.spe_model.specs.Recovery.{recovered}
use Rattle.spe_model.specs.Rows.{table_named}
use Rattle.spe_model.specs.Served.{usable_in}
use Rattle.spe_model.specs.Settled.{header_in, page_in}
use Rattle.spe_model.specs.Standing.{StandsFor}
use Rattle.spe_model.specs.Verdict.{verdict_of}
use Rattle.spe_recover.specs.declared.want.Want.{Want}
use Rattle.spe_recover.specs.declared.want.Want.TheVariants.{Any, Prepared}
use Rattle.spe_recover.specs.Recovered.{is_wanted}
use Rattle.spe_words.specs.declared.command.Command.{Command}
use Rattle.spe_words.specs.declared.command.Command.TheVariants as commands
use Rattle.spe_serve.specs.declared.reply.Reply.{Reply}
use Rattle.spe_serve.specs.declared.reply.Reply.TheVariants as replies

-- the answer of `check` to a verdict over so many pages
abbrev pub reply_of_verdict : (count : ℕ) → Verdict → Reply
reply_of_verdict count (verdicts.Stands tables rows free) = replies.Sound count tables rows free
reply_of_verdict count (verdicts.Broken page rule) = replies.Damage page rule

-- the answer of `rows` about a table: its rows, unless it is closed
abbrev pub reply_of_rows : List Row → Option Closed → Reply
reply_of_rows rows None = replies.Rows rows
reply_of_rows rows (Some why) = replies.ClosedTable why

abbrev pub reply_of_table : Option (TableDef × List Row) → Reply
reply_of_table None = replies.NoTable
reply_of_table (Some found) = reply_of_rows found.1 found.0.closed

-- the pages stand for a database, and the answer is what that says of the table of this name
pub record IsOfStanding (name : List ℕ) (usable count : ℕ) (pages : Paging) (reply : Reply) : Type 0 where
  pub db : Database
  pub stands : StandsFor usable count pages db
  pub reply_is : reply ≡ reply_of_table (table_named name db)

-- the answer of `rows` after a verdict: a broken page comes before the table
abbrev pub IsOfVerdict : (name : List ℕ) (usable count : ℕ) (pages : Paging) → Verdict → Reply → Type 0
IsOfVerdict name usable count pages (verdicts.Broken page rule) reply = reply ≡ replies.Corrupt page
IsOfVerdict name usable count pages (verdicts.Stands tables rows free) reply = IsOfStanding name usable count pages reply

-- the pages stand for a database, and the answer is how many of them are free, the node page among them
pub record IsOfFree (usable count : ℕ) (pages : Paging) (reply : Reply) : Type 0 where
  pub db : Database
  pub stands : StandsFor usable count pages db
  pub reply_is : reply ≡ replies.Released (length stands.listed) count

-- the answer of `release` after a verdict: a broken page comes before what is free
abbrev pub IsOfSound : (usable count : ℕ) (pages : Paging) → Verdict → Reply → Type 0
IsOfSound usable count pages (verdicts.Broken page rule) reply = reply ≡ replies.Corrupt page
IsOfSound usable count pages (verdicts.Stands tables rows free) reply = IsOfFree usable count pages reply

-- the answer of `prepare` over pages in stock form, of which there are to be so many more: they are too many where they would
-- take the file past its limit
abbrev pub reply_of_room : (lists size count more : ℕ) → Reply
reply_of_room lists size count more = if nat_lt (2 ^ 30) ((count + more) * size) then replies.Full count else replies.Prepared lists (count + more)

-- over sound pages, of which so many are free: where page 1 names a node page they are in server form; else pages are added until
-- there is a free one for the node page and one for each list
abbrev pub reply_of_form : (lists size count free : ℕ) → (named : Bool) → Reply
reply_of_form lists size count free true = replies.AlreadyPrepared
reply_of_form lists size count free false = reply_of_room lists size count (lists + 1 - free)

-- after a verdict: a broken page comes before the form, and the form before the room
abbrev pub reply_of_lists : (lists size count : ℕ) → (named : Bool) → Verdict → Reply
reply_of_lists lists size count named (verdicts.Broken page rule) = replies.Corrupt page
reply_of_lists lists size count named (verdicts.Stands tables rows free) = reply_of_form lists size count free named

-- over so many pages, whose header says how many bytes each has
abbrev pub reply_over : (lists usable count : ℕ) → Paging → Reply
reply_over lists usable count pages =
    reply_of_lists lists (fields (take 100 (pages 1))).page_size count (names_node (pages 1)) (verdict_of usable count pages)

-- the answer to a command over so many pages by number
abbrev pub IsOverPages : Command → (usable count : ℕ) (pages : Paging) → Reply → Type 0
IsOverPages (commands.Check db) usable count pages reply = reply ≡ reply_of_verdict count (verdict_of usable count pages)
IsOverPages (commands.Rows db table) usable count pages reply = IsOfVerdict table usable count pages (verdict_of usable count pages) reply
IsOverPages (commands.Release db) usable count pages reply = IsOfSound usable count pages (verdict_of usable count pages) reply
IsOverPages (commands.Prepare db lists) usable count pages reply = reply ≡ reply_over lists usable count pages
IsOverPages _ usable count pages reply = ⊥

-- what a command wants of the recovered pages: `release` wants server form
abbrev pub want_of : Command → Want
want_of (commands.Release db) = Prepared
want_of _ = Any

-- the answer over pages that are such as the command wants, whose header says how many bytes of each are used
abbrev pub IsOverFound : Command → List (List ℕ) → Reply → Type 0
IsOverFound c pages reply = IsOverPages c (usable_in (header_in pages)) (length pages) (page_in pages) reply

-- or are not
abbrev pub IsOverWanted : Command → List (List ℕ) → Bool → Reply → Type 0
IsOverWanted c pages true reply = IsOverFound c pages reply
IsOverWanted c pages false reply = reply ≡ replies.Refused NotPrepared

-- the answer over the recovered pages, whose header says what form they have
abbrev pub IsOverRecovered : Command → List (List ℕ) → Reply → Type 0
IsOverRecovered c pages reply = IsOverWanted c pages (is_wanted (want_of c) (header_in pages)) reply

-- or the reason why there are none
abbrev pub IsOfRecovery : Command → Result (List (List ℕ)) RecoverFault → Reply → Type 0
IsOfRecovery c (Err fault) reply = reply ≡ replies.Refused fault
IsOfRecovery c (Ok pages) reply = IsOverRecovered c pages reply

abbrev pub IsOfFile : Command → Content → Option (List ℕ) → Reply → Type 0
IsOfFile c content None reply = reply ≡ replies.NoDatabase
IsOfFile c content (Some file) reply = IsOfRecovery c (recovered content) reply

-- the commands that read a database and change none of its pages, so far
abbrev pub only_reads : Command → Bool
only_reads (commands.Rows db table) = true
only_reads (commands.Check db) = true
only_reads _ = false

-- and those that write to one
abbrev pub writes : Command → Bool
writes (commands.Release db) = true
writes (commands.Prepare db lists) = true
writes _ = false

-- a command has 1 to 16 lists, where it has any
abbrev pub HasLists : Command → Type 0
HasLists (commands.Prepare db lists) = (1 ≤ lists) × (lists ≤ 16)
HasLists _ = Unit {0}

-- the commands that look at a database so far
abbrev pub is_built : Command → Bool
is_built (commands.Rows db table) = true
is_built (commands.Check db) = true
is_built (commands.Release db) = true
is_built (commands.Prepare db lists) = true
is_built _ = false

-- the answer to a command over a content; that it is not built comes before its database is looked at
abbrev pub IsReplyTo : Command → Content → Reply → Type 0
IsReplyTo (commands.Rows db table) content reply = IsOfFile (commands.Rows db table) content (file_of content files.Database) reply
IsReplyTo (commands.Check db) content reply = IsOfFile (commands.Check db) content (file_of content files.Database) reply
IsReplyTo (commands.Release db) content reply = IsOfFile (commands.Release db) content (file_of content files.Database) reply
IsReplyTo (commands.Prepare db lists) content reply = IsOfFile (commands.Prepare db lists) content (file_of content files.Database) reply
IsReplyTo _ content reply = reply ≡ replies.NotBuilt

-- What the program answers, in words.
use Rattle.std.specs.Prelude.{◌≡◌, ℕ, Bool, true, false, List, [], ◌∷◌, ◌++◌, codes}
use Rattle.std.specs.Fmt.{decimal}
use Rattle.spe_model.specs.declared.header.HeaderFault.{HeaderFault}
use Rattle.spe_model.specs.declared.header.HeaderFault.TheVariants as faults
use Rattle.spe_model.specs.declared.recovery.RecoverFault.{RecoverFault}
use Rattle.spe_model.specs.declared.recovery.RecoverFault.TheVariants as refusals
use Rattle.spe_model.specs.declared.table.Closed.{Closed}
use Rattle.spe_model.specs.declared.table.Closed.TheVariants as reasons
use Rattle.spe_serve.specs.declared.reply.Reply.{Reply}
use Rattle.spe_serve.specs.declared.reply.Reply.TheVariants as replies
use Rattle.spe_render.specs.Values.{line, table_text}
use Rattle.spe_words.specs.declared.command.Command.{Command}
use Rattle.spe_words.specs.declared.command.Command.TheVariants as commands
use Rattle.spe_words.specs.Grammar.{AskFor}

-- a reason that the files give, and no failure
abbrev pub IsPlain : RecoverFault → Type 0
IsPlain refusals.Disk = ⊥
IsPlain refusals.Memory = ⊥
IsPlain fault = Unit {0}

-- an answer to words that ask for rows
abbrev pub IsAboutRows : Reply → Type 0
IsAboutRows replies.NoDatabase = Unit {0}
IsAboutRows (replies.Refused fault) = IsPlain fault
IsAboutRows (replies.Corrupt page) = Unit {0}
IsAboutRows replies.NoTable = Unit {0}
IsAboutRows (replies.ClosedTable why) = Unit {0}
IsAboutRows (replies.Rows rows) = Unit {0}
IsAboutRows _ = ⊥

-- An answer to words that ask for a verdict. Corrupt is page 1 alone, where it no longer begins as recovery found it.
abbrev pub IsAboutVerdict : Reply → Type 0
IsAboutVerdict replies.NoDatabase = Unit {0}
IsAboutVerdict (replies.Refused fault) = IsPlain fault
IsAboutVerdict (replies.Corrupt page) = page ≡ 1
IsAboutVerdict (replies.Sound pages tables rows free) = Unit {0}
IsAboutVerdict (replies.Damage page rule) = Unit {0}
IsAboutVerdict _ = ⊥

-- an answer to words that ask for free lists in stock form
abbrev pub IsAboutRelease : Reply → Type 0
IsAboutRelease replies.NoDatabase = Unit {0}
IsAboutRelease (replies.Refused fault) = IsPlain fault
IsAboutRelease (replies.Corrupt page) = Unit {0}
IsAboutRelease (replies.Released free pages) = Unit {0}
IsAboutRelease _ = ⊥

-- an answer to words that ask for so many free lists in server form
abbrev pub IsAboutPrepare : (lists : ℕ) → Reply → Type 0
IsAboutPrepare lists replies.NoDatabase = Unit {0}
IsAboutPrepare lists (replies.Refused fault) = IsPlain fault
IsAboutPrepare lists (replies.Corrupt page) = Unit {0}
IsAboutPrepare lists replies.AlreadyPrepared = Unit {0}
IsAboutPrepare lists (replies.Full pages) = Unit {0}
IsAboutPrepare lists (replies.Prepared made pages) = made ≡ lists
IsAboutPrepare lists _ = ⊥

-- an answer that a command may have
abbrev pub IsAbout : Command → Reply → Type 0
IsAbout (commands.Rows db table) reply = IsAboutRows reply
IsAbout (commands.Check db) reply = IsAboutVerdict reply
IsAbout (commands.Release db) reply = IsAboutRelease reply
IsAbout (commands.Prepare db lists) reply = IsAboutPrepare lists reply
IsAbout _ reply = reply ≡ replies.NotBuilt

-- the words are no command
abbrev pub AskForNone : List (List ℕ) → Type 0
AskForNone words = (c : Command) → ¬ AskFor words c

abbrev pub number_of : HeaderFault → ℕ
number_of faults.Short = 1
number_of faults.NotADatabase = 2
number_of faults.Wal = 3
number_of faults.BadPageSize = 4
number_of faults.AutoVacuum = 5
number_of faults.Encoding = 6
number_of faults.Reserved = 7
number_of faults.SchemaFormat = 8

abbrev pub closed_number : Closed → ℕ
closed_number reasons.Reserved = 1
closed_number reasons.Definition = 2
closed_number reasons.Indexed = 3
closed_number reasons.Triggered = 4

-- two numbers with a blank between them
abbrev pub pair : ℕ → ℕ → List ℕ
pair a b = decimal a ++ 32 ∷ decimal b

-- why files are not recovered
abbrev pub reason : RecoverFault → List ℕ
reason (refusals.Header fault) = codes "header " ++ decimal (number_of fault)
reason (refusals.JournalPage id size) = codes "journal-page " ++ pair id size
reason (refusals.Overlap page a b) = codes "overlap " ++ decimal page ++ 32 ∷ pair a b
reason (refusals.TooLarge pages) = codes "too-large " ++ decimal pages
reason (refusals.ShortFile pages bytes) = codes "short-file " ++ pair pages bytes
reason refusals.NotPrepared = codes "not-prepared"
reason refusals.Disk = []
reason refusals.Memory = []

-- what a sound database has
abbrev pub counts : (pages tables rows free : ℕ) → List ℕ
counts pages tables rows free =
    codes "ok pages " ++ decimal pages ++ codes " tables " ++ decimal tables ++ codes " rows " ++ decimal rows ++ codes " free " ++ decimal free

-- how many pages are free, and how many there are
abbrev pub released_counts : (free pages : ℕ) → List ℕ
released_counts free pages = codes "released free " ++ decimal free ++ codes " pages " ++ decimal pages

-- how many free lists there are, and how many pages
abbrev pub prepared_counts : (lists pages : ℕ) → List ℕ
prepared_counts lists pages = codes "prepared lists " ++ decimal lists ++ codes " pages " ++ decimal pages

abbrev pub text_of : Reply → List ℕ
text_of replies.Words = line (codes "refused words")
text_of replies.NoDatabase = line (codes "refused no-such-database")
text_of (replies.Refused fault) = line (codes "refused " ++ reason fault)
text_of replies.NotBuilt = line (codes "refused not-built")
text_of (replies.Sound pages tables rows free) = line (counts pages tables rows free)
text_of (replies.Damage page rule) = line (codes "damage " ++ pair page rule)
text_of (replies.Corrupt page) = line (codes "refused corrupt " ++ decimal page)
text_of replies.NoTable = line (codes "refused no-table")
text_of (replies.ClosedTable why) = line (codes "refused closed-table " ++ decimal (closed_number why))
text_of (replies.Rows rows) = table_text rows
text_of (replies.Released free pages) = line (released_counts free pages)
text_of (replies.Prepared lists pages) = line (prepared_counts lists pages)
text_of replies.AlreadyPrepared = line (codes "refused prepared")
text_of (replies.Full pages) = line (codes "refused full " ++ decimal pages)

-- an answer that says that something was done, and what was done is done once
abbrev pub is_done : Reply → Bool
is_done (replies.Released free pages) = true
is_done (replies.Prepared lists pages) = true
is_done _ = false

abbrev pub status_of : Reply → ℕ
status_of (replies.Rows rows) = 0
status_of (replies.Sound pages tables rows free) = 0
status_of (replies.Released free pages) = 0
status_of (replies.Prepared lists pages) = 0
status_of replies.Words = 1
status_of replies.NoDatabase = 2
status_of (replies.Refused fault) = 2
status_of replies.NotBuilt = 2
status_of (replies.Corrupt page) = 2
status_of replies.NoTable = 2
status_of (replies.ClosedTable why) = 2
status_of replies.AlreadyPrepared = 2
status_of (replies.Full pages) = 2
status_of (replies.Damage page rule) = 5

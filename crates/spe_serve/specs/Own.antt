-- What a command does itself, behind recovery: its operations, the pages that the files hold then, and what a stop leaves of it.
use Rattle.std.specs.Prelude.{◌≡◌, ◌⊎◌, ℕ, Bool, true, false, List, [], length, Option, Some, None}
use Rattle.spe_model.specs.declared.recovery.Recovered.{Recovered}
use Rattle.spe_model.specs.declared.verdict.Verdict.{Verdict}
use Rattle.spe_model.specs.declared.verdict.Verdict.TheVariants as verdicts
use Rattle.spe_model.specs.Content.{Content}
use Rattle.spe_model.specs.Covered.{Covered, Recovers}
use Rattle.spe_model.specs.Database.{Database}
use Rattle.spe_model.specs.Header.{node_of}
use Rattle.spe_model.specs.Recovery.{recovered}
use Rattle.spe_model.specs.Served.{usable_in}
use Rattle.spe_model.specs.Settled.{header_in, page_in}
use Rattle.spe_model.specs.Standing.{StandsFor, Whether}
use Rattle.spe_model.specs.Trace.{Operation, History, IsCut, after, present}
use Rattle.spe_model.specs.Verdict.{verdict_of}
use Rattle.spe_disk.specs.Told.{Adds}
use Rattle.spe_recover.specs.Recovered.{is_wanted, rollback_of}
use Rattle.spe_convert.specs.Prepare.{ArePrepared, making_and_preparing, prepared, with_count}
use Rattle.spe_convert.specs.Release.{AreReleased, making_first, released}
use Rattle.spe_words.specs.declared.command.Command.{Command}
use Rattle.spe_words.specs.declared.command.Command.TheVariants as commands
use Rattle.spe_words.specs.Grammar.{AskFor}
use Rattle.spe_serve.specs.Answer.{reply_over, want_of}
use Rattle.spe_serve.specs.Reply.{AskForNone, is_done}

-- the files once recovery is done
abbrev pub rolled_back : Content → Content
rolled_back content = after content (rollback_of content)

-- what recovery finds where these are the pages, after so many operations; which journals were hot plays no part behind it
abbrev pub found_in : (ops : ℕ) → List (List ℕ) → Recovered
found_in ops pages = record {
  page_size = (header_in pages).page_size;
  reserved = (header_in pages).reserved;
  pages = length pages;
  node = node_of (header_in pages);
  rolled = 0;
  ops = ops;
}

abbrev pub is_standing : Verdict → Bool
is_standing (verdicts.Stands tables rows free) = true
is_standing (verdicts.Broken page rule) = false

-- no rule of the check is broken
abbrev pub are_sound : List (List ℕ) → Bool
are_sound pages = is_standing (verdict_of (usable_in (header_in pages)) (length pages) (page_in pages))

-- `prepare` puts these pages in server form, and does not refuse them
abbrev pub are_preparing : (lists : ℕ) → List (List ℕ) → Bool
are_preparing lists pages = is_done (reply_over lists (usable_in (header_in pages)) (length pages) (page_in pages))

-- a command writes where these are the recovered pages
abbrev pub is_writing : Command → List (List ℕ) → Bool
is_writing (commands.Release db) pages = are_sound pages
is_writing (commands.Prepare db lists) pages = are_preparing lists pages
is_writing _ pages = false

-- The operations of the one transaction that puts these free pages in stock form, over the files as recovery leaves them. The
-- absent journals are made first.
abbrev pub releasing_first : Content → (pages : List (List ℕ)) → (free : List ℕ) → List Operation
releasing_first content pages free = making_first (found_in (length (rollback_of content)) pages) (rolled_back content) pages free

-- The operations that put these free pages in server form: those of a transaction that makes the page count of page 1 count, where
-- it does not, and of one that does all else. The absent journals are made first.
abbrev pub preparing_first : (lists : ℕ) → Content → (pages : List (List ℕ)) → (free : List ℕ) → List Operation
preparing_first lists content pages free = making_and_preparing (found_in (length (rollback_of content)) pages) lists (rolled_back content) pages free

-- a command's own operations over recovered pages, where these are the free ones: those that read or refuse make none
abbrev pub AreOwn : Command → Content → (pages : List (List ℕ)) → (free : List ℕ) → (own : List Operation) → Type 0
AreOwn (commands.Release db) content pages free own = Whether (are_sound pages) (own ≡ releasing_first content pages free) (own ≡ [])
AreOwn (commands.Prepare db lists) content pages free own = Whether (are_preparing lists pages) (own ≡ preparing_first lists content pages free) (own ≡ [])
AreOwn _ content pages free own = own ≡ []

-- these are the free pages, as far as the command's own operations rest on them: all of them, ascending
abbrev pub AreTheFree : Command → (pages : List (List ℕ)) → (free : List ℕ) → Type 0
AreTheFree (commands.Release db) pages free = Whether (are_sound pages) (AreReleased (found_in 0 pages) pages free) (Unit {0})
AreTheFree (commands.Prepare db lists) pages free = Whether (are_preparing lists pages) (ArePrepared (found_in 0 pages) lists pages free) (Unit {0})
AreTheFree _ pages free = Unit {0}

-- the pages with all free ones in stock form
pub record IsInStockForm (pages later : List (List ℕ)) : Type 0 where
  pub free : List ℕ
  pub released_are : AreReleased (found_in 0 pages) pages free
  pub later_is : later ≡ released (found_in 0 pages) pages free

-- the pages with all free ones, and new ones, in server form
pub record IsInServerForm (lists : ℕ) (pages later : List (List ℕ)) : Type 0 where
  pub free : List ℕ
  pub prepared_are : ArePrepared (found_in 0 pages) lists pages free
  pub later_is : later ≡ prepared (found_in 0 pages) lists pages free

-- the pages that a command leaves of recovered ones, once it has done all: the same where it reads or refuses
abbrev pub LeavesAtLast : Command → (pages later : List (List ℕ)) → Type 0
LeavesAtLast (commands.Release db) pages later = Whether (are_sound pages) (IsInStockForm pages later) (later ≡ pages)
LeavesAtLast (commands.Prepare db lists) pages later = Whether (are_preparing lists pages) (IsInServerForm lists pages later) (later ≡ pages)
LeavesAtLast _ pages later = later ≡ pages

-- those that it leaves between two transactions: `prepare` has one in which the page count is made to count
abbrev pub LeavesBetween : Command → (pages later : List (List ℕ)) → Type 0
LeavesBetween (commands.Prepare db lists) pages later = later ≡ with_count (found_in 0 pages) pages
LeavesBetween _ pages later = ⊥

-- pages with a database that they stand for
abbrev pub StandOver : (pages : List (List ℕ)) → Database → Type 0
StandOver pages db = StandsFor (usable_in (header_in pages)) (length pages) (page_in pages) db

-- two lists of pages stand for the same database
pub record StandForSame (pages later : List (List ℕ)) : Type 0 where
  pub db : Database
  pub before : StandOver pages db
  pub now : StandOver later db

-- the recovered pages are those that a command leaves of pages where it writes, between its transactions or at last, and both
-- stand for the same database
pub record HasWritten (c : Command) (content now : Content) : Type 0 where
  pub pages : List (List ℕ)
  pub recovers : Recovers content pages
  pub wanted : is_wanted (want_of c) (header_in pages) ≡ true
  pub writing : is_writing c pages ≡ true
  pub later : List (List ℕ)
  pub left : LeavesBetween c pages later ⊎ LeavesAtLast c pages later
  pub recovers_later : Recovers now later
  pub same : StandForSame pages later

-- the recovered pages are those before; or, of a command that writes, those after a whole transaction of it
abbrev pub AreOldOrNew : Command → (content now : Content) → Type 0
AreOldOrNew (commands.Release db) content now = (recovered now ≡ recovered content) ⊎ HasWritten (commands.Release db) content now
AreOldOrNew (commands.Prepare db lists) content now = (recovered now ≡ recovered content) ⊎ HasWritten (commands.Prepare db lists) content now
AreOldOrNew _ content now = recovered now ≡ recovered content

-- Operations were added, and wherever a stop cuts them, the recovered pages are the old or the command's new ones.
pub record KeepsPagesOf (c : Command) (h : History) (new : Option History) : Type 0 where
  pub made : List Operation
  pub adds : Adds (Some h) new made
  pub covered : Covered (present h) made
  pub stops : (cut : List Operation) → IsCut made cut → AreOldOrNew c (present h) (after (present h) cut)

-- the same, where the disk tells what was done
abbrev pub LeavesPagesOf : Command → Option History → Option History → Type 0
LeavesPagesOf c None new = Unit {0}
LeavesPagesOf c (Some h) new = KeepsPagesOf c h new

-- the recovered pages are such for each command that the words ask for, and those before where they ask for none
pub record AreOldOrNewFor (words : List (List ℕ)) (content now : Content) : Type 0 where
  pub asked : (c : Command) → AskFor words c → AreOldOrNew c content now
  pub unasked : AskForNone words → recovered now ≡ recovered content

pub record KeepsPagesFor (words : List (List ℕ)) (h : History) (new : Option History) : Type 0 where
  pub made : List Operation
  pub adds : Adds (Some h) new made
  pub covered : Covered (present h) made
  pub stops : (cut : List Operation) → IsCut made cut → AreOldOrNewFor words (present h) (after (present h) cut)

abbrev pub LeavesPagesFor : (words : List (List ℕ)) → Option History → Option History → Type 0
LeavesPagesFor words None new = Unit {0}
LeavesPagesFor words (Some h) new = KeepsPagesFor words h new

-- What is said of the pages after each number of commits.
use Rattle.std.specs.Prelude.{◌≡◌, ◌⊎◌, ◌+◌, ℕ, List, [], ◌∷◌, ◌++◌, length, map, take, Option, Some, None}
use Rattle.spe_model.specs.declared.commit.Commit as model
use Rattle.spe_model.specs.Database.{Database}
use Rattle.spe_model.specs.Justified.{Asked, Opening, ServedSince}
use Rattle.spe_model.specs.Meaning.{result_of}
use Rattle.spe_model.specs.Paging.{Paging, PageMap}
use Rattle.spe_model.specs.Trace.{History}
use Rattle.spe_transactions.specs.Commits.{Commit, laid_by}
use Rattle.spe_transactions.specs.Growth.{Saying}
use Rattle.spe_transactions.specs.Kept.{StopsKept}
use Rattle.spe_transactions.specs.Pages.{page_at}
use Rattle.spe_store.specs.declared.log.Log.{Log}
use Rattle.spe_store.specs.Opened.{Opened}

-- One commit: what was asked and replied, by which session, how many operations were made when it ended, and the pages that
-- it wrote.
pub record Entry : Type 0 where
  pub log : Log
  pub session : ℕ
  pub ops : ℕ
  pub wrote : PageMap

abbrev pub commit_of : Entry → Commit
commit_of e = record { wrote = e.wrote; ops = e.ops }

abbrev pub commits_of : List Entry → List Commit
commits_of entries = map commit_of entries

-- the pages of the opening with what all entries wrote laid over them, the first of them first
abbrev pub pages_of : Opened → List Entry → List (List ℕ)
pages_of opened entries = laid_by opened.pages (commits_of entries)

-- the commits as they are handed on, the first of them numbered so
abbrev pub rows_from : ℕ → List Entry → List model.Commit
rows_from n [] = []
rows_from n (e ∷ es) = record { client = e.log.client; tx = e.log.tx; number = n; ops = e.ops } ∷ rows_from (n + 1) es

-- the database that these entries leave
abbrev pub database_after : Database → List Entry → Database
database_after db [] = db
database_after db (e ∷ es) = database_after (result_of db e.log.body) es

-- a list of pages is served for a database, and has what was read at the opening
pub record AreServed (read : Opening) (pages : List (List ℕ)) (db : Database) : Type 0 where
  pub paging : Paging
  pub gives : (p : ℕ) (bytes : List ℕ) → page_at pages p ≡ Some bytes → paging p ≡ bytes
  pub served : ServedSince read (length pages) paging db

-- Where the pages of the opening were served for a database, those after n commits are served for what the first n entries
-- leave of it.
abbrev pub Says : Opened → List Entry → Saying
Says opened entries n pages = (db : Database) → AreServed opened.read opened.pages db → AreServed opened.read pages (database_after db (take n entries))

-- each cut of a trace recovers the pages after the entries within it, which are served
abbrev pub AreKept : Opened → History → List Entry → Type 0
AreKept opened h entries = StopsKept (Says opened entries) opened.pages h (commits_of entries)

-- the same once an operation failed: where that was the cut of a commit, this may have been made all the same
abbrev pub AreLeft : Opened → History → List Entry → Option Entry → Type 0
AreLeft opened h entries None = AreKept opened h entries
AreLeft opened h entries (Some broken) = AreKept opened h entries ⊎ AreKept opened h (entries ++ broken ∷ [])

-- what a transaction asked and was answered
abbrev pub asked_of : Log → Asked
asked_of log = record { kind = log.body.kind; statements = log.body.statements; replies = log.replies }

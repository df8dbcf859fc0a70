-- What stays so with each operation and each commit, and where an operation breaks off.
use Rattle.std.specs.Prelude.{◌≡◌, ℕ, ◌+◌, ◌<◌, ◌≤◌, List, [], ◌∷◌, ◌++◌, length, Some, None}
use Rattle.spe_model.specs.Covered.{Covered, Recovers}
use Rattle.spe_model.specs.Recovery.{file_page_size, journal_of}
use Rattle.spe_model.specs.Rollback.{cut_of}
use Rattle.spe_model.specs.Trace.{History, IsCut, Operation, after, present}
use Rattle.spe_transactions.specs.Commits.{Commit, commits_within, laid_by, pages_after}
use Rattle.spe_transactions.specs.Kept.{HasStopped, Stops, StopsKept, WorkKept, ended_by, grown}
use Rattle.spe_transactions.specs.Made.{Makes}
use Rattle.spe_transactions.specs.Pages.{MayCommit, laid_pages}
use Rattle.spe_transactions.specs.Work.{Works, no_works, without_id}

-- what may be said of the pages after n commits
abbrev pub Saying : Type 1
Saying = ℕ → List (List ℕ) → Type 0

-- files at the opening: no journal has bytes, and each cut of what was done so far recovers these pages
pub record IsOpening (opening : List (List ℕ)) (h : History) : Type 0 where
  pub files : length (present h) ≡ 17
  pub quiet : (id : ℕ) → id < 16 → journal_of (present h) id ≡ []
  pub cuts : (cut : List Operation) → IsCut h.trace cut → Recovers (after h.first cut) opening
  pub covered : Covered h.first h.trace

-- no commit has ended, and no transaction is at work
abbrev pub OpeningKept : Saying → Type 0
OpeningKept Meets = (opening : List (List ℕ)) (h : History) → IsOpening opening h → Meets 0 opening → WorkKept Meets opening h [] no_works no_works

-- P of all files of transactions at work
abbrev pub KeptAll : Saying → (List (List ℕ) → History → List Commit → Works → Works → Type 0) → Type 0
KeptAll Meets P = (opening : List (List ℕ)) (h : History) (commits : List Commit) (journalled written : Works)
    → WorkKept Meets opening h commits journalled written → P opening h commits journalled written

-- an operation that leaves the pages is made
abbrev pub StepKept : Saying → Type 0
StepKept Meets = KeptAll Meets (λ opening h commits journalled written. (o : Operation) (new_journalled new_written : Works)
    → Makes (present h) o (laid_by opening commits) (laid_by opening commits) new_journalled new_written
    → WorkKept Meets opening (grown h (o ∷ [])) commits new_journalled new_written)

-- it breaks off: nothing of it was made, or some first bytes, or all
abbrev pub StopKept : Saying → Type 0
StopKept Meets = KeptAll Meets (λ opening h commits journalled written. (o : Operation) (left : List Operation) (new_journalled new_written : Works)
    → Makes (present h) o (laid_by opening commits) (laid_by opening commits) new_journalled new_written
    → IsCut (o ∷ []) left → HasStopped Meets opening (grown h left) commits None)

-- a transaction may commit, and its pages meet what is said of one commit more
pub record CanCommit (Meets : Saying) (opening : List (List ℕ)) (h : History) (commits : List Commit) (written : Works) (id : ℕ) : Type 0 where
  pub low : id < 16
  pub may : MayCommit (laid_by opening commits) (written id) (file_page_size (present h))
  pub meets : Meets (length commits + 1) (laid_pages (laid_by opening commits) (written id))

-- its journal is cut, and with that the commit has ended
abbrev pub CommitKept : Saying → Type 0
CommitKept Meets = KeptAll Meets (λ opening h commits journalled written. (id : ℕ) → CanCommit Meets opening h commits written id
    → WorkKept Meets opening (grown h (cut_of id ∷ [])) (commits ++ ended_by written id (length h.trace + 1) ∷ []) (without_id id journalled) (without_id id written))

-- the cut breaks off: it was not made, or was, and then the commit has ended
abbrev pub CommitStopKept : Saying → Type 0
CommitStopKept Meets = KeptAll Meets (λ opening h commits journalled written. (id : ℕ) (left : List Operation) → CanCommit Meets opening h commits written id
    → IsCut (cut_of id ∷ []) left → HasStopped Meets opening (grown h left) commits (Some (ended_by written id (length h.trace + 1))))

-- a transaction without a journal commits without an operation
abbrev pub BareCommitKept : Saying → Type 0
BareCommitKept Meets = KeptAll Meets (λ opening h commits journalled written. (id : ℕ) → journal_of (present h) id ≡ [] → CanCommit Meets opening h commits written id
    → WorkKept Meets opening h (commits ++ ended_by written id (length h.trace) ∷ []) (without_id id journalled) (without_id id written))

-- what a stop leaves of a trace, in whole operations
pub record CutMeets (Meets : Saying) (opening : List (List ℕ)) (h : History) (commits : List Commit) (cut : List Operation) : Type 0 where
  pub whole : ℕ
  pub stops : Stops h.trace whole cut
  pub recovers : Recovers (after h.first cut) (pages_after opening commits (commits_within commits whole))
  pub meets : Meets (commits_within commits whole) (pages_after opening commits (commits_within commits whole))

-- each cut of the trace recovers the pages after the commits within it, and they meet what is said of that number
abbrev pub CutsMeet : Saying → Type 0
CutsMeet Meets = (opening : List (List ℕ)) (h : History) (commits : List Commit) (cut : List Operation)
    → StopsKept Meets opening h commits → IsCut h.trace cut → CutMeets Meets opening h commits cut

-- what is said of pages may change where it stays true of those that there are
abbrev pub SayingChanges : Saying → Saying → Type 0
SayingChanges Meets Others = (opening : List (List ℕ)) (h : History) (commits : List Commit) → StopsKept Meets opening h commits
    → ((n : ℕ) → n ≤ length commits → (pages : List (List ℕ)) → Meets n pages → Others n pages) → StopsKept Others opening h commits

-- a commit adds one number of commits, and leaves the pages after those before it
abbrev pub AfterCommit : Type 0
AfterCommit = (opening : List (List ℕ)) (commits : List Commit) (last : Commit)
    → ((n : ℕ) → n ≤ length commits → pages_after opening (commits ++ last ∷ []) n ≡ pages_after opening commits n)
    × (laid_by opening (commits ++ last ∷ []) ≡ laid_pages (laid_by opening commits) last.wrote)

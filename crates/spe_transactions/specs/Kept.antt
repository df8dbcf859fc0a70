-- What a stop leaves of the files of several transactions, at any moment since the opening.
use Rattle.std.specs.Prelude.{◌≡◌, ◌⊎◌, ℕ, ◌≤◌, List, [], ◌∷◌, ◌++◌, length, take, All, Option, Some, None, slice_get}
use Rattle.spe_model.specs.Covered.{Covered, Recovers}
use Rattle.spe_model.specs.Trace.{History, IsTorn, Operation, after, present}
use Rattle.spe_transactions.specs.Commits.{Commit, EachMeets, commits_within, laid_by, pages_after}
use Rattle.spe_transactions.specs.Work.{AtWork, Works}

-- the next operation of a trace, torn
pub record IsTornNext (trace : List Operation) (whole : ℕ) (part : Operation) : Type 0 where
  pub next : Operation
  pub there : slice_get trace whole ≡ Some next
  pub torn : IsTorn next part

-- a stop left so many whole operations, and maybe some first bytes of the next
pub record Stops (trace : List Operation) (whole : ℕ) (cut : List Operation) : Type 0 where
  pub within : whole ≤ length trace
  pub left : (cut ≡ take whole trace) ⊎ ((part : Operation) × IsTornNext trace whole part × (cut ≡ take whole trace ++ part ∷ []))

-- at each cut of the trace the recovered pages are those after the commits within it
abbrev pub CutsRecover : (opening : List (List ℕ)) (h : History) (commits : List Commit) → Type 0
CutsRecover opening h commits = (whole : ℕ) (cut : List Operation)
    → Stops h.trace whole cut → Recovers (after h.first cut) (pages_after opening commits (commits_within commits whole))

-- Each cut recovers the pages after the commits within it, each operation is covered, and the pages after each number of
-- commits meet what is said of them.
pub record StopsKept (Meets : ℕ → List (List ℕ) → Type 0) (opening : List (List ℕ)) (h : History) (commits : List Commit) : Type 0 where
  pub ended : All (λ (c : Commit). c.ops ≤ length h.trace) commits
  pub cuts : CutsRecover opening h commits
  pub covered : Covered h.first h.trace
  pub meets : EachMeets Meets opening commits

-- so it is, and some transactions are at work on the pages after all commits
pub record WorkKept (Meets : ℕ → List (List ℕ) → Type 0) (opening : List (List ℕ)) (h : History) (commits : List Commit) (journalled written : Works) : Type 0 where
  pub stops : StopsKept Meets opening h commits
  pub work : AtWork (present h) (laid_by opening commits) journalled written

-- Files that are served no more, since an operation failed. Where that was the cut of this commit, it may have been made all
-- the same: then that commit has ended too.
abbrev pub HasStopped : (Meets : ℕ → List (List ℕ) → Type 0) (opening : List (List ℕ)) (h : History) (commits : List Commit) → Option Commit → Type 0
HasStopped Meets opening h commits None = StopsKept Meets opening h commits
HasStopped Meets opening h commits (Some stopped) = StopsKept Meets opening h commits ⊎ StopsKept Meets opening h (commits ++ stopped ∷ [])

-- with some operations more
abbrev pub grown : History → List Operation → History
grown h os = record { first = h.first; trace = h.trace ++ os }

-- with one commit more, that ended after so many operations
abbrev pub ended_by : Works → (id ops : ℕ) → Commit
ended_by written id ops = record { wrote = written id; ops = ops }

-- What holds of a core and its files at every moment, from which it follows that its run is serial.
use Rattle.std.specs.Prelude.{◌≡◌, ℕ, ◌%◌, ◌<◌, ◌≤◌, true, false, List, [], ◌++◌, length, Option, Some, None, slice_get, if◌then◌else◌}
use Rattle.spe_model.specs.Content.{Content}
use Rattle.spe_model.specs.Covered.{Recovers}
use Rattle.spe_model.specs.Header.{is_size_valid}
use Rattle.spe_model.specs.Paging.{PageMap}
use Rattle.spe_model.specs.Rollback.{rule_of}
use Rattle.spe_model.specs.Settled.{header_in}
use Rattle.spe_model.specs.Trace.{Operation, after}
use Rattle.spe_transactions.specs.Pages.{page_at}
use Rattle.spe_transactions.specs.Work.{AtWork, Works}
use Rattle.spe_core.specs.Enabled.{holds}
use Rattle.spe_core.specs.Laid.{laid}
use Rattle.spe_core.specs.Locks.{has_lock}
use Rattle.spe_core.specs.Serial.{ReadFrom}
use Rattle.spe_stored.specs.Sheets.{Sheets, sheet_at, has_sheet}
use Rattle.spe_core.specs.State.{State, Live, Committed, Mode, Serving, Recovering, is_ended, live_in}

-- what a transaction lists, where it has not ended
abbrev pub listed : (Live → Sheets) → Option Live → PageMap
listed part None p = None
listed part (Some t) p = if is_ended t then None else sheet_at p (part t)

-- the same by id
abbrev pub works_in : (Live → Sheets) → List (ℕ × Live) → Works
works_in part live id p = listed part (live_in id live) p

abbrev pub journalled_of : Live → Sheets
journalled_of t = t.journalled

abbrev pub written_of : Live → Sheets
written_of t = t.written

-- a transaction that has not ended
pub record IsGoing (live : List (ℕ × Live)) (id : ℕ) (t : Live) : Type 0 where
  pub its : live_in id live ≡ Some t
  pub going : is_ended t ≡ false

-- a transaction holds the lock of each page that it read, and is the writer of that of each which it journalled or wrote
pub record IsUnder (slots : ℕ) (t : Live) : Type 0 where
  pub seen : (p : ℕ) → has_sheet p t.seen ≡ true → holds (p % slots) t ≡ true
  pub journalled : (p : ℕ) → has_sheet p t.journalled ≡ true → has_lock (p % slots) t.writes ≡ true
  pub written : (p : ℕ) → has_sheet p t.written ≡ true → has_lock (p % slots) t.writes ≡ true

-- each transaction that has not ended has the locks of its pages, and the writer of a lock is alone
pub record AreLocked (slots : ℕ) (live : List (ℕ × Live)) : Type 0 where
  pub under : (id : ℕ) (t : Live) → IsGoing live id t → IsUnder slots t
  pub alone : (lock i j : ℕ) (t u : Live) → live_in i live ≡ Some t → live_in j live ≡ Some u → has_lock lock t.writes ≡ true → holds lock u ≡ true → i ≡ j

-- The transactions that have not ended did to the files what they part, and read what the commits before them left, under
-- the locks that they hold.
pub record AreServed (slots : ℕ) (live : List (ℕ × Live)) (content : Content) (pages : List (List ℕ)) : Type 0 where
  pub work : AtWork content pages (works_in journalled_of live) (works_in written_of live)
  pub numbered : (id : ℕ) (t : Live) → IsGoing live id t → id < 16
  pub seen : (id : ℕ) (t : Live) → IsGoing live id t → (p : ℕ) (bytes : List ℕ) → sheet_at p t.seen ≡ Some bytes → page_at pages p ≡ Some bytes
  pub locked : AreLocked slots live

-- some first operations of a recovery are made, and these are left
pub record IsRecovering (live : List (ℕ × Live)) (content : Content) (pages : List (List ℕ)) (left : List Operation) : Type 0 where
  pub nobody : live ≡ []
  pub first : Content
  pub made : List Operation
  pub recovers : Recovers first pages
  pub rule : rule_of first (length pages) ≡ made ++ left
  pub now : content ≡ after first made

abbrev pub IsDoing : Mode → ℕ → List (ℕ × Live) → Content → List (List ℕ) → Type 0
IsDoing Serving slots live content pages = AreServed slots live content pages
IsDoing (Recovering left) slots live content pages = IsRecovering live content pages left

-- the pages after all commits
abbrev pub now_laid : State → List (List ℕ)
now_laid s = laid s (length s.commits)

pub record IsSound (s : State) : Type 0 where
  pub reads : (n : ℕ) → (c : Committed) → slice_get s.commits n ≡ Some c → ReadFrom (laid s n) c
  pub files : length s.content ≡ 17
  pub recovers : Recovers s.content (now_laid s)
  pub counted : is_size_valid (header_in (now_laid s)) ≡ true
  pub slots : 1 ≤ s.slots
  pub doing : IsDoing s.mode s.slots s.live s.content (now_laid s)

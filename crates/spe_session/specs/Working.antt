-- What a transaction does that ends: it saves pages, and writes them.
use Rattle.std.specs.Prelude.{◌≡◌, ◌≢◌, ◌<◌, ◌≤◌, ℕ, List, take, Option, Some, None, true}
use Rattle.std.specs.Borrow.{Bor}
use Rattle.spe_model.specs.Faults.{Rose}
use Rattle.spe_model.specs.Paging.{Agrees, Given, PageMap, Paging}
use Rattle.spe_transactions.specs.Work.{has_page}
use Rattle.spe_store.specs.declared.stop.StoreFault.{StoreFault}
use Rattle.spe_store.specs.declared.stop.StoreFault.TheVariants as store
use Rattle.spe_store.specs.Event.{Event, broken_in, entries_in, journalled_in, lives_in, open_in, seen_in, written_in}
use Rattle.spe_store.specs.Opened.{Opened}
use Rattle.spe_store.specs.Store.{Store}
use Rattle.spe_session.specs.declared.fault.EndFault.{EndFault}
use Rattle.spe_session.specs.declared.fault.EndFault.TheVariants.{Read, Stopped, Memory}
use Rattle.spe_session.specs.Alone.{IsAlone}
use Rattle.spe_session.specs.Pages.{bytes_at}

-- a fault of the store as one of an end
abbrev pub end_fault : StoreFault → EndFault
end_fault store.ReadFault = Read
end_fault (store.Stopped op) = Stopped op
end_fault (store.PageOut page pages) = Memory
end_fault store.Memory = Memory

-- Why it failed, as the store is then: it has stopped at the operation that is named, or goes on. Of the disk's readings
-- more have failed than at the opening.
abbrev pub IsFault : Opened → Store → EndFault → Type 0
IsFault opened s Read = (s.desk.stopped ≡ None) × Rose opened.reads s.desk.reads
IsFault opened s (Stopped op) = s.desk.stopped ≡ Some op
IsFault opened s Memory = s.desk.stopped ≡ None

-- where a reading failed, the count of those rose from the one to the other
abbrev pub ReadsFrom : (before now : ℕ) → EndFault → Type 0
ReadsFrom before now Read = Rose before now
ReadsFrom before now _ = Unit {0}

-- an operation failed, and nothing else did
abbrev pub IsStop : EndFault → Type 0
IsStop (Stopped op) = Unit {0}
IsStop _ = ⊥

-- one transaction went on, and neither committed nor read
pub record Carries (id : ℕ) (old new : List Event) : Type 0 where
  pub alone : IsAlone old id → IsAlone new id
  pub lives : lives_in new id ≡ lives_in old id
  pub seen : seen_in new ≡ seen_in old
  pub entries : entries_in new ≡ entries_in old
  pub opens : open_in old id ≡ true → open_in new id ≡ true
  pub broken : broken_in old ≡ None → broken_in new ≡ None

-- it has saved pages, and has written none
pub record Saves (id : ℕ) (old new : List Event) : Type 0 where
  pub carries : Carries id old new
  pub kept : (p : ℕ) → has_page (journalled_in old) id p ≡ true → has_page (journalled_in new) id p ≡ true
  pub written : written_in new ≡ written_in old

-- each of some pages below a number is saved, of those after all commits
abbrev pub AreSaved : (next count : ℕ) (dirty : List (ℕ × List ℕ)) (events : List Event) (id : ℕ) → Type 0
AreSaved next count dirty events id = (n : ℕ) (bytes : List ℕ) → n < next → n ≤ count → bytes_at dirty n ≡ Some bytes → has_page (journalled_in events) id n ≡ true

-- the first page between two numbers that is kept, with its bytes, or none is
abbrev pub IsFirstWithin : (from last : ℕ) → List (ℕ × List ℕ) → Option (ℕ × Bor (List ℕ)) → Type 0
IsFirstWithin from last entries None = (n : ℕ) → from ≤ n → n ≤ last → bytes_at entries n ≡ None
IsFirstWithin from last entries (Some first) =
    (from ≤ first.0) × (first.0 ≤ last) × (bytes_at entries first.0 ≡ Some first.1.now) × ((n : ℕ) → from ≤ n → n < first.0 → bytes_at entries n ≡ None)

-- it has written one page
pub record WritesOne (id page : ℕ) (bytes : List ℕ) (old new : List Event) : Type 0 where
  pub carries : Carries id old new
  pub journalled : journalled_in new ≡ journalled_in old
  pub here : written_in new id page ≡ Some bytes
  pub other : (p : ℕ) → p ≢ page → written_in new id p ≡ written_in old id p

-- it has written pages
pub record Writes (id : ℕ) (old new : List Event) : Type 0 where
  pub carries : Carries id old new
  pub journalled : journalled_in new ≡ journalled_in old

-- what is to be written is written below a number, and no other page is
pub record IsWrittenTo (next : ℕ) (laid written : PageMap) : Type 0 where
  pub done : (p : ℕ) → p < next → written p ≡ laid p
  pub left : (p : ℕ) → next ≤ p → written p ≡ None

-- bytes begin as page 1 does in all pages that agree with what was read
abbrev pub BeginsSo : Given → List ℕ → Type 0
BeginsSo seen bytes = (pages : Paging) → Agrees pages seen → take 24 bytes ≡ take 24 (pages 1)

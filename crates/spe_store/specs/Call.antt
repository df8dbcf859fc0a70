-- What the calls of a store ask for, and what they answer.
use Rattle.std.specs.Prelude.{◌≡◌, ◌≢◌, ◌⊎◌, ◌+◌, ◌^◌, ℕ, ◌<◌, ◌≤◌, true, false, not, ◌&&◌, ◌-◌, ◌%◌, Bool, List, [], ◌∷◌, ◌++◌, length, take, Option, Some, None, unwrap_or}
use Rattle.std.specs.Option.{option_map}
use Rattle.spe_model.specs.declared.file.FileNo.TheVariants.{Journal}
use Rattle.spe_model.specs.Big.{u32_at}
use Rattle.spe_model.specs.Covered.{Covered, Recovers}
use Rattle.spe_model.specs.Faults.{Rose}
use Rattle.spe_model.specs.Header.{is_size_valid}
use Rattle.spe_model.specs.Journal.{record_bytes}
use Rattle.spe_model.specs.Recovery.{journal_of}
use Rattle.spe_model.specs.Rollback.{cut_of, write_of}
use Rattle.spe_model.specs.Settled.{IsFound, header_in, page_in}
use Rattle.spe_model.specs.Trace.{History, IsCut, Operation, present}
use Rattle.spe_model.specs.Trace.Operation.{Write}
use Rattle.spe_transactions.specs.Growth.{CutMeets, IsOpening}
use Rattle.spe_transactions.specs.Kept.{grown}
use Rattle.spe_transactions.specs.Pages.{MayCommit, named_count, page_at}
use Rattle.spe_transactions.specs.Work.{has_page}
use Rattle.spe_store.specs.declared.stop.StoreFault.{StoreFault}
use Rattle.spe_store.specs.declared.stop.StoreFault.TheVariants.{ReadFault, Stopped, PageOut, Memory}
use Rattle.spe_store.specs.declared.store.OpenWhy.{OpenWhy}
use Rattle.spe_store.specs.declared.store.OpenWhy.TheVariants.{Disk, Memory as OutOfMemory}
use Rattle.spe_store.specs.Desk.{Breaks, Desk, Does, Looks}
use Rattle.spe_store.specs.declared.log.Log.{Log}
use Rattle.spe_store.specs.declared.stop.BeginFault.{BeginFault}
use Rattle.spe_store.specs.declared.stop.BeginFault.TheVariants.{Stopped as Halted, Sixteen, Memory as NoMemory}
use Rattle.spe_store.specs.Event.{Event, broken_in, entries_in, journalled_in, open_in, out_in, seen_in, written_in}
use Rattle.spe_store.specs.Event.Event.{Begun, Broken, Committed, Journalled, Undone}
use Rattle.spe_store.specs.Opened.{Opened}
use Rattle.spe_store.specs.Pass.{AreAlike, Pass}
use Rattle.spe_store.specs.Saved.{AreJust}
use Rattle.spe_store.specs.Served.{Entry, Says, commits_of}
use Rattle.spe_store.specs.Store.{AreSeen, HadStopped, HasDone, IfTold, Store, pages_in}

-- the store has of the pass just what the pass lists
abbrev pub IsTied : Store → Pass → Type 0
IsTied s p = AreAlike s.events p.done p.id

-- the files at the opening are those that were found, and each cut so far recovers their pages
pub record HasOpened (opened : Opened) (h : History) : Type 0 where
  pub opening : IsOpening opened.pages h
  pub found : IsFound opened.found (present h) opened.pages
  pub made : opened.found.ops ≡ length h.trace

-- how many pages there are for a transaction: those that it has named on its page 1, or those after all commits
abbrev pub own_count : Store → ℕ → ℕ
own_count s id = unwrap_or (option_map named_count (written_in s.events id 1)) s.count

-- A page may be read that no other transaction has written, where each page that this one has added was written.
pub record MayRead (s : Store) (id page : ℕ) : Type 0 where
  pub others : (i : ℕ) → i ≢ id → has_page (written_in s.events) i page ≡ false
  pub added : s.count < page → page ≤ own_count s id → has_page (written_in s.events) id page ≡ true

-- a page of the transaction is as that has written it, any other as after all commits
abbrev pub IsGiven : (own committed : Option (List ℕ)) → List ℕ → Type 0
IsGiven None committed bytes = committed ≡ Some bytes
IsGiven (Some own) committed bytes = bytes ≡ own

abbrev pub GivesPage : Opened → Store → (id page : ℕ) → List ℕ → Type 0
GivesPage opened s id page bytes = IfTold s.desk.told (λ h. IsGiven (written_in s.events id page) (page_at (pages_in opened s.events) page) bytes)

abbrev pub IsInside : (page pages : ℕ) → Type 0
IsInside page pages = (1 ≤ page) × (page ≤ pages)

-- a reading failed, which changes no more than the disk's count of those
pub record ReadFailed (old new : Store) : Type 0 where
  pub same : new ≡ record old { desk = new.desk }
  pub going : new.desk.stopped ≡ None
  pub looks : Looks old.desk new.desk
  pub rose : Rose old.desk.reads new.desk.reads

-- why a page was not read
abbrev pub IsUnread : (old new : Store) → (id page : ℕ) → StoreFault → Type 0
IsUnread old new id page ReadFault = ReadFailed old new × IsInside page (own_count old id)
IsUnread old new id page (Stopped op) = HadStopped old new op
IsUnread old new id page (PageOut at pages) = (new ≡ old) × (old.desk.stopped ≡ None) × (at ≡ page) × (pages ≡ own_count old id) × (IsInside page pages → ⊥)
IsUnread old new id page Memory = ⊥

-- A page may be journalled that is one of those after all commits, that no other transaction has journalled, and that this
-- one has not written before.
pub record MayJournal (s : Store) (id page : ℕ) : Type 0 where
  pub low : 1 ≤ page
  pub high : page ≤ s.count
  pub others : (i : ℕ) → i ≢ id → has_page (journalled_in s.events) i page ≡ false
  pub fresh : has_page (journalled_in s.events) id page ≡ false → has_page (written_in s.events) id page ≡ false

-- a page was journalled already: nothing is done
pub record IsAgain (old new : Store) (before now : Pass) (page : ℕ) : Type 0 where
  pub has : has_page (journalled_in old.events) before.id page ≡ true
  pub going : old.desk.stopped ≡ None
  pub same : new ≡ old
  pub pass : now ≡ before

-- a record of a page, as it is after all commits, was written behind those of its journal
pub record HasSaved (opened : Opened) (old new : Store) (before now : Pass) (page : ℕ) : Type 0 where
  pub bytes : List ℕ
  pub lacks : has_page (journalled_in old.events) before.id page ≡ false
  pub own : IfTold old.desk.told (λ h. page_at (pages_in opened old.events) page ≡ Some bytes)
  pub done : HasDone old new before now (Journalled before.id page bytes)
  pub going : new.desk.stopped ≡ None
  pub ops : new.desk.ops ≡ old.desk.ops + 1
  pub made : IfTold old.desk.told (λ h. new.desk.told ≡ Some (grown h (Write (Journal before.id) (length (journal_of (present h) before.id)) (record_bytes (u32_at (journal_of (present h) before.id) 12) page bytes) ∷ [])))

abbrev pub HasJournalled : (opened : Opened) (old new : Store) (before now : Pass) (page : ℕ) → Type 0
HasJournalled opened old new before now page = IsAgain old new before now page ⊎ HasSaved opened old new before now page

-- A page may be written that the transaction has journalled; or one above those after all commits, where it has journalled
-- page 1, and that counts the pages.
pub record MayAdd (opened : Opened) (s : Store) (id page : ℕ) : Type 0 where
  pub above : s.count < page
  pub first : has_page (journalled_in s.events) id 1 ≡ true
  pub counted : IfTold s.desk.told (λ h. is_size_valid (header_in (pages_in opened s.events)) ≡ true)

abbrev pub MayWrite : Opened → Store → (id page : ℕ) → Type 0
MayWrite opened s id page = (has_page (journalled_in s.events) id page ≡ true) ⊎ MayAdd opened s id page

-- the bytes begin as page 1 does after all commits
abbrev pub HasFront : Opened → Store → List ℕ → Type 0
HasFront opened s bytes = IfTold s.desk.told (λ h. take 24 bytes ≡ take 24 (page_in (pages_in opened s.events) 1))

-- what a transaction wrote may be laid over the pages after all commits
abbrev pub MayEnd : Opened → Store → ℕ → Type 0
MayEnd opened s id = IfTold s.desk.told (λ h. MayCommit (pages_in opened s.events) (written_in s.events id) s.page_size)

-- no other transaction has read a page that this one has written
abbrev pub LeavesSeen : Store → ℕ → Type 0
LeavesSeen s id = (i p : ℕ) → i ≢ id → has_page (written_in s.events) id p ≡ true → seen_in s.events i p ≡ []

-- no page that the transaction journalled is written
abbrev pub IsUndone : Store → ℕ → Type 0
IsUndone s id = (p : ℕ) → has_page (journalled_in s.events) id p ≡ true → has_page (written_in s.events) id p ≡ false

-- each cut of the trace recovers the pages after the entries within it, which are served
pub record CutsAreServed (opened : Opened) (h : History) (entries : List Entry) : Type 0 where
  pub covered : Covered h.first h.trace
  pub each : (cut : List Operation) → IsCut h.trace cut → CutMeets (Says opened entries) opened.pages h (commits_of entries) cut

-- the same once an operation failed: where that was the cut of a commit, this may have been made all the same
abbrev pub CutsAreLeft : Opened → History → List Entry → Option Entry → Type 0
CutsAreLeft opened h entries None = CutsAreServed opened h entries
CutsAreLeft opened h entries (Some broken) = CutsAreServed opened h entries ⊎ CutsAreServed opened h (entries ++ broken ∷ [])

abbrev pub KeepsCuts : Opened → Store → Type 0
KeepsCuts opened s = IfTold s.desk.told (λ h. CutsAreLeft opened h (entries_in s.events) (broken_in s.events))

-- what is so of the pages after all commits, until the store stops
pub record IsNow (opened : Opened) (s : Store) (h : History) : Type 0 where
  pub recovers : Recovers (present h) (pages_in opened s.events)
  pub counted : s.count ≡ length (pages_in opened s.events)
  pub seen : (id : ℕ) → AreSeen (pages_in opened s.events) (seen_in s.events id)
  pub says : Says opened (entries_in s.events) (length (entries_in s.events)) (pages_in opened s.events)
  pub unbroken : broken_in s.events ≡ None

abbrev pub KeepsPages : Opened → Store → Type 0
KeepsPages opened s = s.desk.stopped ≡ None → IfTold s.desk.told (IsNow opened s)

-- an operation failed in this call, and nothing is listed that was not
pub record HasHalted (old new : Store) (op : ℕ) : Type 0 where
  pub going : old.desk.stopped ≡ None
  pub same : new ≡ record old { desk = new.desk }
  pub stopped : new.desk.stopped ≡ Some op
  pub cause : Rose old.desk.faults new.desk.faults ⊎ (old.desk.ops ≡ 2 ^ 64 - 1)

-- there was no memory, which changes no more than what readings do
pub record IsShort (old new : Store) : Type 0 where
  pub same : new ≡ record old { desk = new.desk }
  pub going : new.desk.stopped ≡ None
  pub looks : Looks old.desk new.desk

-- the low 32 bits of a number
abbrev pub low_half : ℕ → ℕ
low_half n = n % 2 ^ 32

-- why a page was not journalled
abbrev pub IsUnsaved : (old new : Store) → StoreFault → Type 0
IsUnsaved old new ReadFault = ReadFailed old new
IsUnsaved old new (Stopped op) = HadStopped old new op ⊎ HasHalted old new op
IsUnsaved old new (PageOut at pages) = ⊥
IsUnsaved old new Memory = IsShort old new

-- the cut of a commit's journal was tried, where that is open
abbrev pub CutsIf : Bool → (old new : Desk) → Operation → Type 0
CutsIf true old new o = Does old new o
CutsIf false old new o = (old.stopped ≡ None) × (new ≡ old)

-- A transaction committed: the list of commits has this entry more, of this session.
pub record HasCommitted (old new : Store) (before now : Pass) (session : ℕ) (log : Log) (ops : ℕ) : Type 0 where
  pub events : new.events ≡ Committed before.id session ops log ∷ old.events
  pub pass : now ≡ record before { done = Committed before.id session ops log ∷ before.done }
  pub entries : entries_in new.events ≡ entries_in old.events ++ record { log = log; session = session; ops = ops; wrote = written_in old.events before.id } ∷ []
  pub made : ops ≡ new.desk.ops
  pub sized : new.page_size ≡ old.page_size
  pub counted : new.count ≡ own_count old before.id

-- the cut failed: the list of commits is as before, and whether this one was made is not known
pub record HasBroken (old new : Store) (id session : ℕ) (log : Log) (op : ℕ) : Type 0 where
  pub going : old.desk.stopped ≡ None
  pub events : new.events ≡ Broken id session op log ∷ old.events
  pub tried : Breaks old.desk new.desk (cut_of id) op
  pub sized : new.page_size ≡ old.page_size
  pub counted : new.count ≡ old.count

-- a store that was opened, in which nothing was done yet
pub record IsNew (opened : Opened) (s : Store) : Type 0 where
  pub events : s.events ≡ []
  pub going : s.desk.stopped ≡ None
  pub sized : s.page_size ≡ opened.found.page_size
  pub counted : s.count ≡ opened.found.pages

-- why a store was not opened; where the disk failed some journals may have been made
abbrev pub IsUnopened : Opened → (faults : ℕ) → OpenWhy → Type 0
IsUnopened opened faults Disk = Rose opened.faults faults ⊎ (2 ^ 64 ≤ opened.found.ops + 16)
IsUnopened opened faults OutOfMemory = Unit {0}

-- one page that the transaction journalled and wrote has its old bytes again, or there was none
pub record HasUndoneOne (old new : Store) (before now : Pass) : Type 0 where
  pub page : ℕ
  pub bytes : List ℕ
  pub saved : journalled_in old.events before.id page ≡ Some bytes
  pub done : HasDone old new before now (Undone before.id page)
  pub made : Does old.desk new.desk (write_of old.page_size (record { page = page; content = bytes }))

abbrev pub UndoesOne : (old new : Store) (before now : Pass) → Type 0
UndoesOne old new before now = ((IsUndone old before.id) × (old.desk.stopped ≡ None) × (new ≡ old) × (now ≡ before)) ⊎ HasUndoneOne old new before now

-- so many pages are left that the transaction has journalled and written
pub record AreToUndo (s : Store) (id left : ℕ) : Type 0 where
  pub pages : List ℕ
  pub each : AreJust (λ (p : ℕ). has_page (journalled_in s.events) id p && has_page (written_in s.events) id p) pages
  pub count : left ≡ length pages

-- a page was not undone, as an operation failed
abbrev pub IsStill : (old new : Store) → ℕ → Type 0
IsStill old new op = HadStopped old new op ⊎ HasHalted old new op

-- an id that is not out, and whose journal is not open
abbrev pub is_free : List Event → ℕ → Bool
is_free events id = not (out_in events id) && not (open_in events id)

-- a pass was begun with the lowest id that was free
pub record HasBegun (old new : Store) (pass : Pass) : Type 0 where
  pub going : old.desk.stopped ≡ None
  pub free : is_free old.events pass.id ≡ true
  pub lowest : (i : ℕ) → i < pass.id → is_free old.events i ≡ false
  pub done : pass.done ≡ Begun pass.id ∷ []
  pub same : new ≡ record old { events = Begun pass.id ∷ old.events }

-- why no pass was begun
abbrev pub IsUnbegun : (old new : Store) → BeginFault → Type 0
IsUnbegun old new (Halted op) = HadStopped old new op
IsUnbegun old new Sixteen = (new ≡ old) × (old.desk.stopped ≡ None) × ((i : ℕ) → i < 16 → is_free old.events i ≡ false)
IsUnbegun old new NoMemory = (new ≡ old) × (old.desk.stopped ≡ None)

-- an event is entered, unless the store has stopped
abbrev pub EntersIf : Option ℕ → (old new : Store) → Event → Type 0
EntersIf None old new e = new ≡ record old { events = e ∷ old.events }
EntersIf (Some op) old new e = new ≡ old

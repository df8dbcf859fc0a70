-- What a store is seen as, and what holds of it between two calls.
use Rattle.std.specs.Prelude.{◌≡◌, ◌⊎◌, ◌-◌, ◌^◌, ℕ, suc, ◌<◌, ◌≤◌, nat_lt, true, if◌then◌else◌, List, [], ◌∷◌, length, All, Option, Some, None, is_some, slice_get}
use Rattle.std.specs.Option.{option_map}
use Rattle.spe_model.specs.declared.commit.Commit as model
use Rattle.spe_model.specs.Big.{u32_at}
use Rattle.spe_model.specs.Content.{Content}
use Rattle.spe_model.specs.Faults.{Rose}
use Rattle.spe_model.specs.Recovery.{file_page_size, journal_of}
use Rattle.spe_model.specs.Trace.{History, Operation, present}
use Rattle.spe_transactions.specs.Kept.{WorkKept}
use Rattle.spe_transactions.specs.Pages.{named_count, page_at}
use Rattle.spe_store.specs.declared.stop.StoreFault.{StoreFault}
use Rattle.spe_store.specs.declared.stop.StoreFault.TheVariants.{Stopped}
use Rattle.spe_store.specs.declared.work.Work.{Work}
use Rattle.spe_store.specs.Desk.{Breaks, Desk}
use Rattle.spe_store.specs.Event.{Event, broken_in, entries_in, journalled_in, lives_in, open_in, out_in, seen_in, written_in}
use Rattle.spe_store.specs.Opened.{Opened}
use Rattle.spe_store.specs.Pass.{Pass}
use Rattle.spe_store.specs.Saved.{changed_at, saved_at}
use Rattle.spe_store.specs.Served.{AreLeft, Entry, Says, commits_of, pages_of, rows_from}

pub record Store : Type 0 where
  pub desk : Desk
  pub events : List Event
  pub page_size : ℕ
  pub count : ℕ

-- the list of commits, and for how many more there is room
pub record Order : Type 0 where
  pub rows : List model.Commit
  pub room : ℕ

-- what a store holds of one transaction is what that has done
pub record IsListed (page_size : ℕ) (events : List Event) (id : ℕ) (w : Work) : Type 0 where
  pub saved : (p : ℕ) → saved_at p w.saved ≡ journalled_in events id p
  pub changed : (p : ℕ) → is_some (journalled_in events id p) ≡ true → changed_at p w.saved ≡ is_some (written_in events id p)
  pub own : w.own ≡ option_map named_count (written_in events id 1)
  pub begun : nat_lt 0 w.end ≡ open_in events id
  pub due : w.due ≡ lives_in events id
  pub out : w.out ≡ out_in events id
  pub sized : (p : ℕ) (bytes : List ℕ) → saved_at p w.saved ≡ Some bytes → length bytes ≡ page_size

abbrev pub AreListed : ℕ → List Event → List Work → Type 0
AreListed page_size events works = (id : ℕ) (w : Work) → slice_get works id ≡ Some w → IsListed page_size events id w

-- where the journal of a transaction ends, and its nonce
pub record IsEnd (content : Content) (id : ℕ) (w : Work) : Type 0 where
  pub at : w.end ≡ length (journal_of content id)
  pub nonce : 0 < w.end → u32_at (journal_of content id) 12 ≡ w.nonce

-- the pages after all commits
abbrev pub pages_in : Opened → List Event → List (List ℕ)
pages_in opened events = pages_of opened (entries_in events)

-- all that was given of a page is as it is in these pages
abbrev pub AreSeen : List (List ℕ) → (ℕ → List (List ℕ)) → Type 0
AreSeen pages seen = (p : ℕ) → All (λ bytes. page_at pages p ≡ Some bytes) (seen p)

-- the files of a store that has not stopped
pub record IsServing (opened : Opened) (h : History) (events : List Event) (page_size count : ℕ) (works : List Work) : Type 0 where
  pub kept : WorkKept (Says opened (entries_in events)) opened.pages h (commits_of (entries_in events)) (journalled_in events) (written_in events)
  pub seen : (id : ℕ) → AreSeen (pages_in opened events) (seen_in events id)
  pub counted : count ≡ length (pages_in opened events)
  pub sized : page_size ≡ file_page_size (present h)
  pub ends : (id : ℕ) (w : Work) → slice_get works id ≡ Some w → IsEnd (present h) id w

-- P of a history that is told
abbrev pub IfTold : Option History → (History → Type 0) → Type 0
IfTold None P = Unit {0}
IfTold (Some h) P = P h

-- a store that has not stopped
pub record IsGoing (opened : Opened) (told : Option History) (events : List Event) (page_size count : ℕ) (works : List Work) : Type 0 where
  pub unbroken : broken_in events ≡ None
  pub listed : AreListed page_size events works
  pub served : IfTold told (λ h. IsServing opened h events page_size count works)

-- the files of a store that has stopped
pub record IsHalted (opened : Opened) (h : History) (events : List Event) : Type 0 where
  pub left : AreLeft opened h (entries_in events) (broken_in events)
  pub seen : (id : ℕ) → AreSeen (pages_in opened events) (seen_in events id)

abbrev pub IsHeld : (opened : Opened) → Option ℕ → Option History → List Event → (page_size count : ℕ) → List Work → Type 0
IsHeld opened None told events page_size count works = IsGoing opened told events page_size count works
IsHeld opened (Some op) told events page_size count works = IfTold told (λ h. IsHalted opened h events)

-- how many transactions may still commit
abbrev pub due_count : List Work → ℕ
due_count [] = 0
due_count (w ∷ ws) = if w.due then suc (due_count ws) else due_count ws

-- the disk is the one of the opening, its counts have not fallen, and it has stopped where an operation failed
pub record IsOf (opened : Opened) (desk : Desk) : Type 0 where
  pub first : option_map (λ (h : History). h.first) desk.told ≡ opened.first
  pub reads : opened.reads ≤ desk.reads
  pub faults : opened.faults ≤ desk.faults
  pub cause : (op : ℕ) → desk.stopped ≡ Some op → Rose opened.faults desk.faults ⊎ (desk.ops ≡ 2 ^ 64 - 1)

-- no commit was made after fewer operations than one before it
abbrev pub NeverFall : List model.Commit → Type 0
NeverFall [] = Unit {0}
NeverFall (c ∷ cs) = All (λ (d : model.Commit). c.ops ≤ d.ops) cs × NeverFall cs

pub record IsOrder (entries : List Entry) (ops : ℕ) (order : Order) : Type 0 where
  pub rows : order.rows ≡ rows_from 1 entries
  pub ended : All (λ (c : model.Commit). c.ops ≤ ops) order.rows
  pub sorted : NeverFall order.rows

pub record IsStored (opened : Opened) (s : Store) (works : List Work) (order : Order) : Type 0 where
  pub low : 512 ≤ s.page_size
  pub high : s.page_size ≤ 65536
  pub found : s.page_size ≡ opened.found.page_size
  pub all : length works ≡ 16
  pub of : IsOf opened s.desk
  pub ordered : IsOrder (entries_in s.events) s.desk.ops order
  pub room : due_count works ≤ order.room
  pub held : IsHeld opened s.desk.stopped s.desk.told s.events s.page_size s.count works

-- P of the operation at which a call stopped, which is the one fault that it answers
abbrev pub OnStop : StoreFault → (ℕ → Type 0) → Type 0
OnStop (Stopped op) P = P op
OnStop _ P = ⊥

-- an operation failed, now or earlier, and nothing is listed that was not
pub record IsRefused (old new : Store) (o : Operation) (op : ℕ) : Type 0 where
  pub same : new ≡ record old { desk = new.desk }
  pub tried : ((old.desk.stopped ≡ Some op) × (new.desk ≡ old.desk)) ⊎ Breaks old.desk new.desk o op

-- the store had stopped
abbrev pub HadStopped : (old new : Store) → ℕ → Type 0
HadStopped old new op = (old.desk.stopped ≡ Some op) × (new ≡ old)

-- a call that did this
pub record HasDone (old new : Store) (before now : Pass) (e : Event) : Type 0 where
  pub events : new.events ≡ e ∷ old.events
  pub pass : now ≡ record before { done = e ∷ before.done }
  pub sized : new.page_size ≡ old.page_size
  pub counted : new.count ≡ old.count

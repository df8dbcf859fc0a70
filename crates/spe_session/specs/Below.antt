-- The store that a pager stands on, in which no transaction has written a page yet.
use Rattle.std.specs.Prelude.{◌≡◌, ◌+◌, ◌*◌, ◌^◌, ◌<◌, ℕ, List, Option, Some, None, Bool, true, false}
use Rattle.std.specs.Option.{option_map}
use Rattle.spe_model.specs.Paging.{Agrees, Given, Paging}
use Rattle.spe_model.specs.Settled.{page_in}
use Rattle.spe_model.specs.Trace.{History}
use Rattle.spe_space.specs.declared.fault.SpaceFault.{SpaceFault}
use Rattle.spe_space.specs.declared.fault.SpaceFault.TheVariants as space
use Rattle.spe_store.specs.declared.stop.StoreFault.{StoreFault}
use Rattle.spe_store.specs.declared.stop.StoreFault.TheVariants as store
use Rattle.spe_store.specs.Event.{Event, entries_in, written_in}
use Rattle.spe_store.specs.Opened.{Opened}
use Rattle.spe_store.specs.Served.{Entry}
use Rattle.spe_store.specs.Store.{Store, pages_in}

-- no transaction has written a page
abbrev pub IsUnwritten : List Event → Type 0
IsUnwritten events = (id p : ℕ) → written_in events id p ≡ None

-- the pages after all commits, where the disk tells them
abbrev pub below_of : Opened → Store → Option Paging
below_of opened s = option_map (λ (h : History). page_in (pages_in opened s.events)) s.desk.told

-- what was read agrees with these pages, where they are told
abbrev pub IsBelow : Option Paging → Given → Type 0
IsBelow told seen = (pages : Paging) → told ≡ Some pages → Agrees pages seen

-- a fault of the store as one of a space
abbrev pub space_fault : StoreFault → SpaceFault
space_fault store.ReadFault = space.Read
space_fault (store.Stopped op) = space.Stopped op
space_fault (store.PageOut page pages) = space.PageOut page pages
space_fault store.Memory = space.Memory

-- the faults of a pager: nobody else holds a page, and its store has not stopped
abbrev pub admits_own : SpaceFault → Bool
admits_own (space.Busy page word) = false
admits_own (space.Stopped op) = false
admits_own _ = true

-- a fault that is kept is one of these
abbrev pub IsAdmitted : Option SpaceFault → Type 0
IsAdmitted kept = (fault : SpaceFault) → kept ≡ Some fault → admits_own fault ≡ true

-- a file of so many pages has no room for sixteen more
abbrev pub HasNoRoom : (pages size : ℕ) → Type 0
HasNoRoom pages size = 2 ^ 30 < (pages + 16) * size

-- What a transaction began on: the files and the commits, how many pages there were, its id, the first trunk of its list, and
-- how many readings had failed.
pub record Begun : Type 0 where
  pub told : Option History
  pub entries : List Entry
  pub count : ℕ
  pub id : ℕ
  pub first : ℕ
  pub reads : ℕ

-- nothing was done to the store but a reading
pub record StaysBelow (opened : Opened) (old new : Store) : Type 0 where
  pub files : new.desk.told ≡ old.desk.told
  pub commits : entries_in new.events ≡ entries_in old.events
  pub told : below_of opened new ≡ below_of opened old
  pub sized : new.page_size ≡ old.page_size
  pub counted : new.count ≡ old.count
  pub stopped : new.desk.stopped ≡ old.desk.stopped

-- What a transaction leaves that ends.
use Rattle.std.specs.Prelude.{◌≡◌, ℕ, List, [], ◌∷◌, ◌++◌, Option, Some, None, IfSome, Result, Ok, Err, false, max, unwrap_or}
use Rattle.std.specs.Option.{option_map}
use Rattle.spe_model.specs.Content.{Content}
use Rattle.spe_model.specs.Database.{Database}
use Rattle.spe_model.specs.Justified.{Asked, Opening, ServedSince}
use Rattle.spe_model.specs.Meaning.{replies_from, result_from}
use Rattle.spe_model.specs.Paging.{Agrees, Given, PageMap, Paging, lay}
use Rattle.spe_space.specs.Front.{number_in}
use Rattle.spe_transactions.specs.Pages.{named_count}
use Rattle.spe_store.specs.declared.log.Log.{Log}
use Rattle.spe_store.specs.Opened.{Opened}
use Rattle.spe_store.specs.Served.{AreServed, Entry}
use Rattle.spe_store.specs.Event.{broken_in, entries_in, open_in}
use Rattle.spe_store.specs.Store.{Store}
use Rattle.spe_session.specs.declared.fault.EndFailed.{EndFailed}
use Rattle.spe_session.specs.declared.fault.EndFault.{EndFault}
use Rattle.spe_session.specs.declared.fault.EndFault.TheVariants.{Stopped}
use Rattle.spe_session.specs.Alone.{IsAlone, IsIdle}

-- where the disk told what its files held at the opening, their pages were served for some database
abbrev pub WasServed : Opened → Type 0
WasServed opened = IfSome opened.first (λ (first : Content). (db : Database) × AreServed opened.read opened.pages db)

-- the store goes on and no transaction is at work, or it has stopped and nothing more is listed
abbrev pub LeavesEvents : Option ℕ → (old new : Store) → Type 0
LeavesEvents None old new = IsIdle new.events
LeavesEvents (Some op) old new = new.events ≡ old.events

-- a transaction is no more, and nothing else has changed
pub record IsLeft (old new : Store) : Type 0 where
  pub events : LeavesEvents old.desk.stopped old new
  pub entries : entries_in new.events ≡ entries_in old.events
  pub unbroken : broken_in old.events ≡ None → broken_in new.events ≡ None
  pub desk : new.desk ≡ old.desk
  pub sized : new.page_size ≡ old.page_size
  pub counted : new.count ≡ old.count

-- a transaction is to be finished that was not committed: it is alone, and its journal is not open where the store goes on
pub record FailsEnd (id : ℕ) (old new : Store) : Type 0 where
  pub alone : IsAlone new.events id
  pub closed : new.desk.stopped ≡ None → open_in new.events id ≡ false
  pub entries : entries_in new.events ≡ entries_in old.events
  pub sized : new.page_size ≡ old.page_size

-- What a transaction leaves of pages that agree with what it read: it has replied what follows from them, and with what it
-- laid over them they are served for what its statements leave, name so many pages, and have pages of this size.
pub record LeavesServed (opening : Opening) (asked : Asked) (laid : PageMap) (number size : ℕ) (pages : Paging) (db : Database) : Type 0 where
  pub replied : asked.replies ≡ replies_from asked.kind db asked.statements
  pub since : ServedSince opening (number_in (lay laid pages)) (lay laid pages) (result_from asked.kind db asked.statements)
  pub named : number_in (lay laid pages) ≡ number
  pub sized : since.served.header.page_size ≡ size

abbrev pub EndsServed : (opening : Opening) (asked : Asked) (seen : Given) (laid : PageMap) (number size : ℕ) → Type 0
EndsServed opening asked seen laid number size =
    (count : ℕ) (pages : Paging) (db : Database) → ServedSince opening count pages db → Agrees pages seen → LeavesServed opening asked laid number size pages db

-- the list of commits has one entry more, of this session
pub record AddsEntry (old new : List Entry) (session : ℕ) (log : Log) (wrote : PageMap) : Type 0 where
  pub ops : ℕ
  pub is : new ≡ old ++ record { log = log; session = session; ops = ops; wrote = wrote } ∷ []

-- no cut has failed, or it is that of this session and log
abbrev pub IsBrokenBy : (session : ℕ) → Log → Option Entry → Type 0
IsBrokenBy session log None = Unit {0}
IsBrokenBy session log (Some e) = (e.log ≡ log) × (e.session ≡ session)

-- a cut that failed is that of the operation that is named
abbrev pub NamesCut : Option Entry → EndFault → Type 0
NamesCut None why = Unit {0}
NamesCut (Some e) why = why ≡ Stopped e.ops

-- the greatest number of commits that a session was told, once it has its answer
abbrev pub told_after : ℕ → Result ℕ EndFailed → ℕ
told_after told (Ok number) = number
told_after told (Err failed) = max told failed.number

-- how many pages there are with some laid over them: as page 1 names, where it is among them
abbrev pub count_after : PageMap → ℕ → ℕ
count_after laid count = unwrap_or (option_map named_count (laid 1)) count

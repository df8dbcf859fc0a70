-- What transactions did, as a list of events, the newest first.
use Rattle.std.specs.Prelude.{ℕ, ◌==◌, ◌&&◌, Bool, true, false, List, [], ◌∷◌, ◌++◌, Option, Some, None, if◌then◌else◌}
use Rattle.spe_model.specs.Paging.{Given}
use Rattle.spe_store.specs.declared.kind.Kind.{Kind}
use Rattle.spe_store.specs.declared.kind.Kind.TheVariants as kind
use Rattle.spe_store.specs.declared.kind.Ending.{Ending}
use Rattle.spe_store.specs.declared.kind.Ending.TheVariants as ending
use Rattle.spe_store.specs.declared.log.Log.{Log}
use Rattle.spe_store.specs.Served.{Entry}
use Rattle.spe_transactions.specs.Work.{Works, has_page, with_page, without_id, without_page}

pub data Event : Type 0 where
  Begun : (id : ℕ) → Event
  Opened : (id : ℕ) → Event
  Journalled : (id page : ℕ) → List ℕ → Event
  Written : (id page : ℕ) → List ℕ → Event
  Undone : (id page : ℕ) → Event
  Read : (id page : ℕ) → List ℕ → Event
  Dropped : (id : ℕ) → Event
  Finished : (id : ℕ) → Event
  Returned : (id : ℕ) → Event
  Committed : (id session ops : ℕ) → Log → Event
  Broken : (id session ops : ℕ) → Log → Event

-- which journals are open
abbrev pub open_in : List Event → ℕ → Bool
open_in [] i = false
open_in (Opened id ∷ es) i = if i == id then true else open_in es i
open_in (Dropped id ∷ es) i = if i == id then false else open_in es i
open_in (Finished id ∷ es) i = if i == id then false else open_in es i
open_in (Committed id session ops log ∷ es) i = if i == id then false else open_in es i
open_in (_ ∷ es) i = open_in es i

-- which ids are handed out
abbrev pub out_in : List Event → ℕ → Bool
out_in [] i = false
out_in (Begun id ∷ es) i = if i == id then true else out_in es i
out_in (Returned id ∷ es) i = if i == id then false else out_in es i
out_in (_ ∷ es) i = out_in es i

-- which transactions may still commit: they have begun, and have neither committed nor been rolled back
abbrev pub lives_in : List Event → ℕ → Bool
lives_in [] i = false
lives_in (Begun id ∷ es) i = if i == id then true else lives_in es i
lives_in (Dropped id ∷ es) i = if i == id then false else lives_in es i
lives_in (Finished id ∷ es) i = if i == id then false else lives_in es i
lives_in (Committed id session ops log ∷ es) i = if i == id then false else lives_in es i
lives_in (_ ∷ es) i = lives_in es i

-- what each transaction has journalled, as it was before
abbrev pub journalled_in : List Event → Works
journalled_in [] = λ i p. None
journalled_in (Begun id ∷ es) = without_id id (journalled_in es)
journalled_in (Journalled id page bytes ∷ es) = with_page id page bytes (journalled_in es)
journalled_in (Dropped id ∷ es) = without_id id (journalled_in es)
journalled_in (Finished id ∷ es) = without_id id (journalled_in es)
journalled_in (Committed id session ops log ∷ es) = without_id id (journalled_in es)
journalled_in (_ ∷ es) = journalled_in es

-- what each transaction has written
abbrev pub written_in : List Event → Works
written_in [] = λ i p. None
written_in (Begun id ∷ es) = without_id id (written_in es)
written_in (Written id page bytes ∷ es) = with_page id page bytes (written_in es)
written_in (Undone id page ∷ es) = without_page id page (written_in es)
written_in (Dropped id ∷ es) = without_id id (written_in es)
written_in (Finished id ∷ es) = without_id id (written_in es)
written_in (Committed id session ops log ∷ es) = without_id id (written_in es)
written_in (_ ∷ es) = written_in es

-- pages that transactions were given, with one page more of one of them
abbrev pub with_seen : (id page : ℕ) → List ℕ → (ℕ → Given) → ℕ → Given
with_seen id page bytes seen i p = if (i == id) && (p == page) then bytes ∷ seen i p else seen i p

abbrev pub without_seen : (id : ℕ) → (ℕ → Given) → ℕ → Given
without_seen id seen i p = if i == id then [] else seen i p

-- what each transaction has read of the pages that it had not written
abbrev pub seen_in : List Event → ℕ → Given
seen_in [] = λ i p. []
seen_in (Begun id ∷ es) = without_seen id (seen_in es)
seen_in (Read id page bytes ∷ es) = if has_page (written_in es) id page then seen_in es else with_seen id page bytes (seen_in es)
seen_in (Finished id ∷ es) = without_seen id (seen_in es)
seen_in (Committed id session ops log ∷ es) = without_seen id (seen_in es)
seen_in (_ ∷ es) = seen_in es

-- the list of commits, the first of them first
abbrev pub entries_in : List Event → List Entry
entries_in [] = []
entries_in (Committed id session ops log ∷ es) = entries_in es ++ record { log = log; session = session; ops = ops; wrote = written_in es id } ∷ []
entries_in (_ ∷ es) = entries_in es

-- the commit whose cut failed last
abbrev pub broken_in : List Event → Option Entry
broken_in (Broken id session ops log ∷ es) = Some (record { log = log; session = session; ops = ops; wrote = written_in es id })
broken_in _ = None

-- the event of a kind
abbrev pub event_of : Kind → (id page : ℕ) → List ℕ → Event
event_of kind.Begin id page bytes = Begun id
event_of kind.Open id page bytes = Opened id
event_of kind.Journal id page bytes = Journalled id page bytes
event_of kind.Write id page bytes = Written id page bytes
event_of kind.Undo id page bytes = Undone id page
event_of kind.Read id page bytes = Read id page bytes
event_of kind.Drop id page bytes = Dropped id
event_of kind.Finish id page bytes = Finished id
event_of kind.Return id page bytes = Returned id

-- the event of a commit, and of one whose cut failed
abbrev pub end_of : Ending → (id session ops : ℕ) → Log → Event
end_of ending.Commit id session ops log = Committed id session ops log
end_of ending.Break id session ops log = Broken id session ops log

-- A transaction over a store, from its begin to its end.
use Rattle.std.specs.Prelude.{◌≡◌, ◌⊎◌, ◌*◌, ◌^◌, ◌<◌, ◌≤◌, ℕ, true, List, [], ◌∷◌, ◌++◌, length, take, Option, None, Some, IfSome, Result, Ok, Err}
use Rattle.spe_model.specs.declared.reply.Reply.{Reply}
use Rattle.spe_model.specs.declared.transaction.End.TheVariants as ends
use Rattle.spe_model.specs.declared.transaction.Tx.{Tx}
use Rattle.spe_model.specs.declared.transcript.Cause.{Cause}
use Rattle.spe_model.specs.declared.transcript.Cause.TheVariants as causes
use Rattle.spe_model.specs.declared.transcript.Outcome.{Outcome}
use Rattle.spe_model.specs.declared.transcript.Outcome.TheVariants.{Commit, Rollback, ReadOnly, Busy, Full, Fault, Memory}
use Rattle.spe_model.specs.Database.{Database}
use Rattle.spe_model.specs.Faults.{Rose}
use Rattle.spe_model.specs.Meaning.{replies_of}
use Rattle.spe_model.specs.Paging.{Given}
use Rattle.spe_space.specs.declared.fault.TreeFault.{TreeFault}
use Rattle.spe_space.specs.declared.fault.TreeFault.TheVariants.{Space, Corrupt}
use Rattle.spe_space.specs.declared.fault.SpaceFault.{SpaceFault}
use Rattle.spe_space.specs.declared.fault.SpaceFault.TheVariants as faults
use Rattle.spe_space.specs.Outcome.{OnFull}
use Rattle.spe_store.specs.declared.session.SessionSeat.{SessionSeat}
use Rattle.spe_store.specs.declared.stop.BeginFault.{BeginFault}
use Rattle.spe_store.specs.declared.stop.BeginFault.TheVariants as begins
use Rattle.spe_store.specs.Desk.{Desk}
use Rattle.spe_store.specs.Event.{broken_in, entries_in}
use Rattle.spe_store.specs.Opened.{Opened}
use Rattle.spe_store.specs.Served.{AreServed, Entry, Says, database_after, pages_of}
use Rattle.spe_store.specs.Store.{AreSeen, Store}
use Rattle.spe_session.specs.declared.fault.EndFailed.{EndFailed}
use Rattle.spe_session.specs.declared.fault.EndFault.{EndFault}
use Rattle.spe_session.specs.declared.fault.EndFault.TheVariants as ends_by
use Rattle.spe_session.specs.Alone.{IsIdle}
use Rattle.spe_session.specs.Below.{HasNoRoom, admits_own}

-- a store with no transaction at work, unless it has stopped
abbrev pub IsResting : Store → Type 0
IsResting s = s.desk.stopped ≡ None → IsIdle s.events

-- whatever the database is for which the pages of the opening were served, where the disk told what its files held
abbrev pub WhereWasServed : Opened → (Database → Type 0) → Type 0
WhereWasServed opened What = IfSome opened.first (λ first. (db : Database) → AreServed opened.read opened.pages db → What db)

-- the number of an outcome: of the commit itself, or of the commits that the transaction saw
abbrev pub number_of : Outcome → ℕ
number_of (Commit number) = number
number_of (Rollback number) = number
number_of (ReadOnly number) = number
number_of (Busy number page word) = number
number_of (Full number pages) = number
number_of (Fault number cause) = number
number_of (Memory number) = number

-- The commit of a transaction of a client is entered behind the others.
pub record IsEntered (before after : List Entry) (client tx : ℕ) (body : Tx) (replies : List Reply) : Type 0 where
  pub entry : Entry
  pub entries : after ≡ before ++ entry ∷ []
  pub log : entry.log ≡ record { client = client; tx = tx; body = body; replies = replies }

-- What an outcome says of the list of commits: it is as before, but for a commit, which is its last.
abbrev pub EntersBy : (before after : List Entry) (client tx : ℕ) (body : Tx) (replies : List Reply) → Outcome → Type 0
EntersBy before after client tx body replies (Commit number) = IsEntered before after client tx body replies × (number ≡ length after)
EntersBy before after client tx body replies _ = after ≡ before

abbrev pub Enters : (old new : Store) (client tx : ℕ) (body : Tx) (replies : List Reply) → Outcome → Type 0
Enters old new client tx body replies outcome = EntersBy (entries_in old.events) (entries_in new.events) client tx body replies outcome

-- the replies are those to all statements of the transaction, or to some first ones, on a database
abbrev pub AreFront : Database → Tx → List Reply → Type 0
AreFront db body replies = (k : ℕ) × (replies ≡ take k (replies_of db body))

-- What an outcome says of the replies, where the pages of the opening were served for a database: they are right on the
-- database that the commits within its number leave. A commit's own number counts it, and so it saw one commit less.
abbrev pub AreRight : List Entry → Database → Tx → List Reply → Outcome → Type 0
AreRight entries db body replies (Commit number) = replies ≡ replies_of (database_after db entries) body
AreRight entries db body replies (Rollback number) = replies ≡ replies_of (database_after db (take number entries)) body
AreRight entries db body replies (ReadOnly number) = ⊥
AreRight entries db body replies (Busy number page word) = ⊥
AreRight entries db body replies (Full number pages) = AreFront (database_after db (take number entries)) body replies × (length replies < length body.statements)
AreRight entries db body replies (Fault number cause) = AreFront (database_after db (take number entries)) body replies
AreRight entries db body replies (Memory number) = AreFront (database_after db (take number entries)) body replies

-- a transaction ends as it asks, if it ends well
abbrev pub EndsAs : Tx → Outcome → Type 0
EndsAs body (Commit number) = body.end ≡ ends.Commit
EndsAs body (Rollback number) = body.end ≡ ends.Rollback
EndsAs body (ReadOnly number) = ⊥
EndsAs body (Busy number page word) = ⊥
EndsAs body _ = Unit {0}

-- a transaction that names an operation could not go on since the store has stopped at it
abbrev pub IsCause : (new : Desk) → Cause → Type 0
IsCause new (causes.Stopped op) = new.stopped ≡ Some op
IsCause new _ = Unit {0}

abbrev pub HasReason : (new : Desk) → Outcome → Type 0
HasReason new (Fault number cause) = IsCause new cause
HasReason new _ = Unit {0}

-- where a transaction ends with a failed reading, the count of those rose from the one to the other
abbrev pub ReadsFailed : (before now : ℕ) → Outcome → Type 0
ReadsFailed before now (Fault number causes.Read) = Rose before now
ReadsFailed before now _ = Unit {0}

-- where it ends with a full file, that has no room for sixteen pages more of this size
abbrev pub IsFilled : (size : ℕ) → Outcome → Type 0
IsFilled size (Full number pages) = HasNoRoom pages size
IsFilled size _ = Unit {0}

-- A commit whose cut failed is that of this transaction, which ends with the operation that its entry counts.
abbrev pub BreaksAs : (client tx : ℕ) (body : Tx) (replies : List Reply) → Outcome → Option Entry → Type 0
BreaksAs client tx body replies outcome None = Unit {0}
BreaksAs client tx body replies outcome (Some e) =
    (e.log ≡ record { client = client; tx = tx; body = body; replies = replies }) × ((number : ℕ) × (outcome ≡ Fault number (causes.Stopped e.ops)))

-- The cut of this transaction's commit failed, so that it may have been made all the same. The transaction ends with this
-- operation, which the entry counts as made.
pub record HasCutFailed (new : Store) (client tx : ℕ) (body : Tx) (replies : List Reply) (outcome : Outcome) : Type 0 where
  pub entry : Entry
  pub broken : broken_in new.events ≡ Some entry
  pub log : entry.log ≡ record { client = client; tx = tx; body = body; replies = replies }
  pub number : ℕ
  pub named : outcome ≡ Fault number (causes.Stopped entry.ops)

-- what is known of a commit whose cut failed is as before, or it is that of this transaction
abbrev pub KeepsBroken : (old new : Store) (client tx : ℕ) (body : Tx) (replies : List Reply) → Outcome → Type 0
KeepsBroken old new client tx body replies outcome = (broken_in new.events ≡ broken_in old.events) ⊎ HasCutFailed new client tx body replies outcome

-- where a transaction ends with an operation that failed, its replies are those to all its statements, on the database that
-- the commits leave
abbrev pub StopsWhole : List Entry → Database → Tx → List Reply → Outcome → Type 0
StopsWhole entries db body replies (Fault number (causes.Stopped op)) = replies ≡ replies_of (database_after db entries) body
StopsWhole entries db body replies _ = Unit {0}

-- What was told to a session: the number of its newest outcome, which is never lower than what it was told before. It is at
-- most the number of commits, and a commit's is higher.
pub record IsToldBy (entries : List Entry) (before now : SessionSeat) (outcome : Outcome) : Type 0 where
  pub number : now ≡ record before { told = number_of outcome }
  pub low : before.told ≤ number_of outcome
  pub high : number_of outcome ≤ length entries

abbrev pub IsTold : (old new : Store) (before now : SessionSeat) (outcome : Outcome) → Type 0
IsTold old new before now outcome = IsToldBy (entries_in new.events) before now outcome

-- once a store has stopped, it says so and does nothing
abbrev pub StaysStopped : (old new : Store) → Outcome → Type 0
StaysStopped old new outcome = (op : ℕ) → old.desk.stopped ≡ Some op → (new ≡ old) × ((number : ℕ) × (outcome ≡ Fault number (causes.Stopped op)))

-- What a transaction rests on, where the disk tells its files: the pages after the commits are served for what these leave,
-- and all that it was given is of them.
pub record RestsOn (opened : Opened) (entries : List Entry) (seen : Given) : Type 0 where
  pub says : Says opened entries (length entries) (pages_of opened entries)
  pub seen_is : AreSeen (pages_of opened entries) seen

-- what is said of a fault that is Full
abbrev pub OnTreeFull : Type 0 → TreeFault → Type 0
OnTreeFull what (Space f) = OnFull what f
OnTreeFull what (Corrupt page) = Unit {0}

-- the outcome of a transaction that met a fault
abbrev pub outcome_of : (number : ℕ) → TreeFault → Outcome
outcome_of number (Space (faults.Busy page word)) = Busy number page word
outcome_of number (Space faults.Read) = Fault number causes.Read
outcome_of number (Space (faults.Stopped op)) = Fault number (causes.Stopped op)
outcome_of number (Space (faults.Full pages)) = Full number pages
outcome_of number (Space (faults.PageOut page pages)) = Fault number (causes.Corrupt page)
outcome_of number (Space (faults.Corrupt page)) = Fault number (causes.Corrupt page)
outcome_of number (Space faults.Memory) = Memory number
outcome_of number (Corrupt page) = Fault number (causes.Corrupt page)

-- a fault that calls over a pager may answer
abbrev pub IsOwnFault : TreeFault → Type 0
IsOwnFault (Space f) = admits_own f ≡ true
IsOwnFault (Corrupt page) = Unit {0}

-- a fault of the space, Memory apart, is the one that it keeps
abbrev pub IsKept : Option SpaceFault → TreeFault → Type 0
IsKept kept (Space faults.Memory) = Unit {0}
IsKept kept (Space f) = kept ≡ Some f
IsKept kept (Corrupt page) = Unit {0}

-- the outcome of a transaction that was to commit and did not
abbrev pub failed_outcome : (number : ℕ) → EndFault → Outcome
failed_outcome number ends_by.Read = Fault number causes.Read
failed_outcome number (ends_by.Stopped op) = Fault number (causes.Stopped op)
failed_outcome number ends_by.Memory = Memory number

-- the outcome of a transaction that was to commit
abbrev pub outcome_after : Result ℕ EndFailed → Outcome
outcome_after (Ok number) = Commit number
outcome_after (Err failed) = failed_outcome failed.number failed.why

-- a file may have so many pages of a size
pub record IsCounted (pages size : ℕ) : Type 0 where
  pub some : 1 ≤ pages
  pub few : pages * size ≤ 2 ^ 30

-- the outcome of a transaction that did not begin
abbrev pub unbegun_outcome : (number : ℕ) → BeginFault → Outcome
unbegun_outcome number (begins.Stopped op) = Fault number (causes.Stopped op)
unbegun_outcome number begins.Sixteen = Memory number
unbegun_outcome number begins.Memory = Memory number

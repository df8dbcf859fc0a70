-- What is so of the transactions that have ended so far.
use Rattle.std.specs.Prelude.{◌≡◌, ◌+◌, ◌<◌, ◌≤◌, ℕ, List, ◌++◌, length, map, take, All, Some, slice_get}
use Rattle.std.specs.List.{Contains}
use Rattle.spe_model.specs.declared.transaction.Tx.{Tx}
use Rattle.spe_model.specs.declared.transcript.Outcome.{Outcome}
use Rattle.spe_model.specs.declared.transcript.Outcome.TheVariants.{Commit}
use Rattle.spe_model.specs.Database.{Database}
use Rattle.spe_model.specs.Settled.{IsWithinLimits}
use Rattle.spe_frame.specs.Times.{times}
use Rattle.spe_session.specs.declared.running.Base.{Base}
use Rattle.spe_session.specs.Ending.{WasServed}
use Rattle.spe_store.specs.Event.{entries_in}
use Rattle.spe_store.specs.Opened.{Opened}
use Rattle.spe_store.specs.Served.{Entry, database_after, rows_from}
use Rattle.spe_store.specs.Store.{Store}
use Rattle.spe_session.specs.Transaction.{AreRight, EndsAs, Enters, HasReason, StaysStopped, WhereWasServed, number_of}
use Rattle.spe_clients.specs.Ended.{Answer, Ended, IsStoppedAt, NumbersRise, StayStopped, all_ended, ended_from, lengths_of}
use Rattle.spe_clients.specs.Plain.{IsWell, plain_run}
use Rattle.spe_clients.specs.Serial.{AreReplies, IsListed}

-- the database after the first n of some entries
abbrev pub after_entries : Database → List Entry → ℕ → Database
after_entries db entries n = database_after db (take n entries)

-- an entry is that of a transaction that committed with this number
pub record IsEntryOf (ended : List Ended) (entry : Entry) (number : ℕ) : Type 0 where
  pub by : Ended
  pub among : Contains ended by
  pub client : by.client ≡ entry.log.client
  pub tx : by.tx ≡ entry.log.tx
  pub body : by.body ≡ entry.log.body
  pub outcome : by.outcome ≡ Commit number

abbrev pub bodies_of : List Ended → List Tx
bodies_of ended = map (λ (e : Ended). e.body) ended

abbrev pub outcomes_in : List Ended → List Outcome
outcomes_in ended = map (λ (e : Ended). e.outcome) ended

abbrev pub answers_of : List Ended → List Answer
answers_of ended = map (λ (e : Ended). (e.outcome, e.replies)) ended

-- where each transaction ended as it asked: what they did is what a plain run does, whatever follows them
pub record ArePlain (db : Database) (entries : List Entry) (ended : List Ended) : Type 0 where
  pub run : (more : List Tx) → plain_run 0 db (bodies_of ended ++ more) ≡ answers_of ended ++ plain_run (length entries) (database_after db entries) more

abbrev pub PlainSoFar : List Entry → List Ended → Database → Type 0
PlainSoFar entries ended db = All IsWell (outcomes_in ended) → ArePlain db entries ended

abbrev pub RepliesSoFar : List Entry → List Ended → Database → Type 0
RepliesSoFar entries ended db = All (λ (e : Ended). AreReplies (after_entries db entries) e.body e.replies e.outcome) ended

abbrev pub RightOn : List Entry → Ended → Database → Type 0
RightOn entries e db = AreRight entries db e.body e.replies e.outcome

-- These transactions have ended, and the store has no commits but theirs.
pub record Holds (opened : Opened) (ended : List Ended) (s : Store) : Type 0 where
  pub ends : All (λ (e : Ended). EndsAs e.body e.outcome) ended
  pub listed : All (IsListed (rows_from 1 (entries_in s.events))) ended
  pub made : (place : ℕ) (entry : Entry) → slice_get (entries_in s.events) place ≡ Some entry → IsEntryOf ended entry (place + 1)
  pub within : All (λ (e : Ended). number_of e.outcome ≤ length (entries_in s.events)) ended
  pub rising : NumbersRise (outcomes_in ended)
  pub lasting : StayStopped (outcomes_in ended)
  pub named : All (λ (o : Outcome). (op : ℕ) → IsStoppedAt op o → s.desk.stopped ≡ Some op) (outcomes_in ended)
  pub replies : WhereWasServed opened (RepliesSoFar (entries_in s.events) ended)
  pub plain : WhereWasServed opened (PlainSoFar (entries_in s.events) ended)

-- whatever has ended before, these transactions have ended after it
abbrev pub Goes : Opened → (old new : Store) → List Ended → Type 0
Goes opened old new more = (before : List Ended) → Holds opened before old → Holds opened (before ++ more) new

-- one transaction was run, which saw all commits before it
pub record Steps (opened : Opened) (old new : Store) (e : Ended) : Type 0 where
  pub enters : Enters old new e.client e.tx e.body e.replies e.outcome
  pub ends : EndsAs e.body e.outcome
  pub right : WhereWasServed opened (RightOn (entries_in old.events) e)
  pub reason : HasReason new.desk e.outcome
  pub number : number_of e.outcome ≡ length (entries_in new.events)
  pub stays : StaysStopped old new e.outcome

-- what is known of a database is what was read at its opening
pub record IsBaseOf (opened : Opened) (base : Base) : Type 0 where
  pub limits : IsWithinLimits base.found.now
  pub found : base.found.now ≡ opened.found
  pub catalog : base.catalog.now ≡ opened.read.catalog
  pub first : 0 < times base.first opened.read.trunks
  pub served : WasServed opened

-- Of a client's script these transactions are left. Those before them have run, each with its answer.
pub record HasRun (opened : Opened) (old now : Store) (client : ℕ) (script left : List Tx) (answers : List Answer) : Type 0 where
  pub ran : List Tx
  pub script_is : script ≡ ran ++ left
  pub answered : length answers ≡ length ran
  pub goes : Goes opened old now (ended_from client 1 ran answers)

-- The scripts of these clients are left. Those before them have run, each with its transcript.
pub record HaveRun (opened : Opened) (old now : Store) (scripts left : List (List Tx)) (transcripts : List (List Answer)) : Type 0 where
  pub ran : List (List Tx)
  pub scripts_are : scripts ≡ ran ++ left
  pub answered : lengths_of transcripts ≡ lengths_of ran
  pub goes : Goes opened old now (all_ended ran transcripts)

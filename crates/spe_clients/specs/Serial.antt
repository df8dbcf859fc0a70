-- Transactions of clients that were replied to as one serial run, in the order of their commits.
use Rattle.std.specs.Prelude.{◌≡◌, ◌≢◌, ◌-◌, ◌<◌, ◌≤◌, ℕ, List, [], ◌∷◌, ◌++◌, length, map, take, All, option_to_list}
use Rattle.std.specs.List.{AllPairs, Contains, range_with_len}
use Rattle.spe_model.specs.declared.commit.Commit as model
use Rattle.spe_model.specs.declared.reply.Reply.{Reply}
use Rattle.spe_model.specs.declared.transaction.Tx.{Tx}
use Rattle.spe_model.specs.declared.transcript.Outcome.{Outcome}
use Rattle.spe_model.specs.declared.transcript.Outcome.TheVariants.{Commit, Rollback, ReadOnly, Busy, Full, Fault, Memory}
use Rattle.spe_model.specs.Database.{Database}
use Rattle.spe_model.specs.Meaning.{replies_of, result_of}
use Rattle.spe_store.specs.Store.{NeverFall}
use Rattle.spe_session.specs.Transaction.{AreFront, EndsAs, number_of}
use Rattle.spe_clients.specs.Ended.{Answer, Ended, NumbersRise, all_ended, lengths_of, of_turn, outcomes_of}

-- the transactions of some commits, in their order
abbrev pub committed : (scripts : List (List Tx)) (order : List model.Commit) → List Tx
committed scripts [] = []
committed scripts (c ∷ cs) = option_to_list (of_turn scripts c.client c.tx) ++ committed scripts cs

-- the database that transactions leave, the first of them first
abbrev pub database_after : Database → List Tx → Database
database_after db [] = db
database_after db (t ∷ ts) = database_after (result_of db t) ts

-- the database after the first n commits
abbrev pub database_at : (scripts : List (List Tx)) (order : List model.Commit) → Database → ℕ → Database
database_at scripts order db n = database_after db (take n (committed scripts order))

-- a transaction that committed is listed with its number
abbrev pub IsListed : (order : List model.Commit) → Ended → Type 0
IsListed order e = (number : ℕ) → e.outcome ≡ Commit number → (ops : ℕ) × Contains order (record { client = e.client; tx = e.tx; number = number; ops = ops })

-- a commit that is listed is that of a transaction that committed with its number
pub record IsCommitOf (ended : List Ended) (c : model.Commit) : Type 0 where
  pub by : Ended
  pub among : Contains ended by
  pub client : by.client ≡ c.client
  pub tx : by.tx ≡ c.tx
  pub outcome : by.outcome ≡ Commit c.number

-- The list of commits has each that was made, once and in the order of their numbers, and each transaction has an outcome. An
-- outcome's number is of a commit, or of some that the transaction saw; a client's numbers never fall.
pub record AreOrdered (scripts : List (List Tx)) (order : List model.Commit) (transcripts : List (List Answer)) : Type 0 where
  pub numbered : map (λ (c : model.Commit). c.number) order ≡ range_with_len 1 (length order)
  pub once : AllPairs (λ (c d : model.Commit). c.client ≡ d.client → c.tx ≢ d.tx) order
  pub sorted : NeverFall order
  pub complete : lengths_of transcripts ≡ lengths_of scripts
  pub ends : All (λ (e : Ended). EndsAs e.body e.outcome) (all_ended scripts transcripts)
  pub listed : All (IsListed order) (all_ended scripts transcripts)
  pub made : All (IsCommitOf (all_ended scripts transcripts)) order
  pub within : All (λ (e : Ended). number_of e.outcome ≤ length order) (all_ended scripts transcripts)
  pub rising : All (λ (answers : List Answer). NumbersRise (outcomes_of answers)) transcripts

-- What an outcome says of the replies, where n commits leave the database `at n`. A commit saw those before its own number.
abbrev pub AreReplies : (at : ℕ → Database) → Tx → List Reply → Outcome → Type 0
AreReplies at body replies (Commit number) = replies ≡ replies_of (at (number - 1)) body
AreReplies at body replies (Rollback number) = replies ≡ replies_of (at number) body
AreReplies at body replies (ReadOnly number) = ⊥
AreReplies at body replies (Busy number page word) = ⊥
AreReplies at body replies (Full number pages) = AreFront (at number) body replies × (length replies < length body.statements)
AreReplies at body replies (Fault number cause) = AreFront (at number) body replies
AreReplies at body replies (Memory number) = AreFront (at number) body replies

-- the replies of all transactions are those of one serial run on a database, in the order of their commits
pub record IsSerial (scripts : List (List Tx)) (order : List model.Commit) (transcripts : List (List Answer)) (db : Database) : Type 0 where
  pub ordered : AreOrdered scripts order transcripts
  pub replies : All (λ (e : Ended). AreReplies (database_at scripts order db) e.body e.replies e.outcome) (all_ended scripts transcripts)

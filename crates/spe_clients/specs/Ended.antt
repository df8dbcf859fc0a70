-- Transactions of clients that have ended.
use Rattle.std.specs.Prelude.{◌≡◌, ◌+◌, ◌-◌, ◌<◌, ◌≤◌, ℕ, List, [], ◌∷◌, ◌++◌, length, map, Option, Some, None, slice_get}
use Rattle.std.specs.List.{AllPairs}
use Rattle.spe_model.specs.declared.reply.Reply.{Reply}
use Rattle.spe_model.specs.declared.transaction.Tx.{Tx}
use Rattle.spe_model.specs.declared.transcript.Cause.TheVariants.{Stopped}
use Rattle.spe_model.specs.declared.transcript.Outcome.{Outcome}
use Rattle.spe_model.specs.declared.transcript.Outcome.TheVariants.{Commit, Fault}
use Rattle.spe_session.specs.Transaction.{number_of}

-- how a transaction ended, and the replies to its statements as far as they go
abbrev pub Answer : Type 0
Answer = Outcome × List Reply

-- what some lists, one for each client, have of a client's transaction, each numbered from 1
abbrev pub of_tx : {A : Type 0} → Option (List A) → (tx : ℕ) → Option A
of_tx None tx = None
of_tx (Some xs) tx = slice_get xs (tx - 1)

abbrev pub of_turn : {A : Type 0} → List (List A) → (client tx : ℕ) → Option A
of_turn lists client tx = of_tx (slice_get lists (client - 1)) tx

-- A transaction of a client, each numbered from 1: what it asked, how it ended, and what it was replied.
pub record Ended : Type 0 where
  pub client : ℕ
  pub tx : ℕ
  pub body : Tx
  pub outcome : Outcome
  pub replies : List Reply

-- the transactions of a client with what became of them, the first of them numbered so
abbrev pub ended_from : (client tx : ℕ) → List Tx → List Answer → List Ended
ended_from client tx (t ∷ ts) (a ∷ ys) = record { client = client; tx = tx; body = t; outcome = a.0; replies = a.1 } ∷ ended_from client (tx + 1) ts ys
ended_from client tx _ _ = []

-- those of all clients, client after client, the first of them numbered so
abbrev pub clients_from : (client : ℕ) → List (List Tx) → List (List Answer) → List Ended
clients_from client (ts ∷ tss) (ys ∷ yss) = ended_from client 1 ts ys ++ clients_from (client + 1) tss yss
clients_from client _ _ = []

abbrev pub all_ended : (scripts : List (List Tx)) (transcripts : List (List Answer)) → List Ended
all_ended scripts transcripts = clients_from 1 scripts transcripts

-- all of some lists, one after the other
abbrev pub joined : {A : Type 0} → List (List A) → List A
joined [] = []
joined (xs ∷ xss) = xs ++ joined xss

-- how many each of some lists has
abbrev pub lengths_of : {A : Type 0} → List (List A) → List ℕ
lengths_of xss = map length xss

abbrev pub outcomes_of : List Answer → List Outcome
outcomes_of answers = map (λ (a : Answer). a.0) answers

-- the outcomes of all clients, client after client
abbrev pub all_outcomes : List (List Answer) → List Outcome
all_outcomes transcripts = outcomes_of (joined transcripts)

-- a later outcome has no lower number, and that of a commit is higher
pub record IsLater (before after : Outcome) : Type 0 where
  pub low : number_of before ≤ number_of after
  pub commit : (number : ℕ) → after ≡ Commit number → number_of before < number

-- numbers never fall, and a commit's is higher than all before
abbrev pub NumbersRise : List Outcome → Type 0
NumbersRise outcomes = AllPairs IsLater outcomes

-- the transaction could not go on, as an operation failed, and this was it
abbrev pub IsStoppedAt : (op : ℕ) → Outcome → Type 0
IsStoppedAt op outcome = (number : ℕ) × (outcome ≡ Fault number (Stopped op))

-- once a transaction was stopped by an operation that failed, so is each later one, by the same
abbrev pub StayStopped : List Outcome → Type 0
StayStopped outcomes = AllPairs (λ before after. (op : ℕ) → IsStoppedAt op before → IsStoppedAt op after) outcomes

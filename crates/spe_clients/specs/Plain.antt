-- The transactions of all clients run one after another, where nothing fails.
use Rattle.std.specs.Prelude.{◌≡◌, ◌+◌, ℕ, List, [], ◌∷◌, All}
use Rattle.spe_model.specs.declared.transaction.End.{End}
use Rattle.spe_model.specs.declared.transaction.End.TheVariants as ends
use Rattle.spe_model.specs.declared.transaction.Tx.{Tx}
use Rattle.spe_model.specs.declared.transcript.Outcome.{Outcome}
use Rattle.spe_model.specs.declared.transcript.Outcome.TheVariants.{Commit, Rollback}
use Rattle.spe_model.specs.Database.{Database}
use Rattle.spe_model.specs.Meaning.{replies_of, result_of}
use Rattle.spe_clients.specs.Ended.{Answer, all_outcomes, joined}

-- the outcome of a transaction that nothing hinders, after so many commits
abbrev pub plain_outcome : (commits : ℕ) → End → Outcome
plain_outcome commits ends.Commit = Commit (commits + 1)
plain_outcome commits ends.Rollback = Rollback commits

-- how many commits there are after it
abbrev pub commits_after : (commits : ℕ) → End → ℕ
commits_after commits ends.Commit = commits + 1
commits_after commits ends.Rollback = commits

-- what it leaves of a database
abbrev pub left_of : Database → Tx → End → Database
left_of db t ends.Commit = result_of db t
left_of db t ends.Rollback = db

-- transactions run one after another on a database, after so many commits
abbrev pub plain_run : (commits : ℕ) → Database → List Tx → List Answer
plain_run commits db [] = []
plain_run commits db (t ∷ ts) = (plain_outcome commits t.end, replies_of db t) ∷ plain_run (commits_after commits t.end) (left_of db t t.end) ts

-- a transaction ended as it asked
abbrev pub IsWell : Outcome → Type 0
IsWell (Commit number) = Unit {0}
IsWell (Rollback number) = Unit {0}
IsWell _ = ⊥

-- where each transaction ended as it asked, all are as one after another, client after client
abbrev pub IsPlain : (scripts : List (List Tx)) (transcripts : List (List Answer)) → Database → Type 0
IsPlain scripts transcripts db = All IsWell (all_outcomes transcripts) → joined transcripts ≡ plain_run 0 db (joined scripts)

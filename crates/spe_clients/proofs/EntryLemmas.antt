-- The list of commits of a store as it is handed on.
use Rattle.std.proofs.Common.{◌≡◌, ◌∙◌, ◌+◌, ◌<◌, ℕ, zero, suc, Bool, true, false, cond, List, [], ◌∷◌, ◌++◌, length, map, take, filter, Option, Some, refl, ap, arith}
use Rattle.std.specs.Prelude.{nat_le, option_to_list, slice_get, slice_index_or}
use Rattle.std.specs.List.{range_with_len}
use Rattle.spe_model.specs.declared.commit.Commit as model
use Rattle.spe_model.specs.declared.transaction.Tx.{Tx}
use Rattle.spe_model.specs.Database.{Database}
use Rattle.spe_model.specs.Meaning.{result_of}
use Rattle.spe_transactions.specs.Commits.{Commit, commits_within}
use Rattle.spe_store.specs.Served.{Entry, commit_of, commits_of, database_after, rows_from}
use Rattle.spe_clients.specs.Cuts.{ended_within, ops_of}
use Rattle.spe_clients.specs.Ended.{of_turn}
use Rattle.spe_clients.specs.Serial.{committed, database_after as database_by}

abbrev pub row_of : ℕ → Entry → model.Commit
row_of n e = record { client = e.log.client; tx = e.log.tx; number = n; ops = e.ops }

abbrev pub txs_of : List Entry → List Tx
txs_of entries = map (λ (e : Entry). e.log.body) entries

abbrev pub ops_in : List Entry → List ℕ
ops_in entries = map (λ (e : Entry). e.ops) entries

pub rows_append : (n : ℕ) (es more : List Entry) → rows_from n (es ++ more) ≡ rows_from n es ++ rows_from (n + length es) more
rows_append n [] more = ap (λ (m : ℕ). rows_from m more) (omega arith)
rows_append n (e ∷ es) more =
    ap (λ (rows : List model.Commit). row_of n e ∷ rows) (rows_append (n + 1) es more ∙ ap (λ (m : ℕ). rows_from (n + 1) es ++ rows_from m more) (omega arith))

pub rows_length : (n : ℕ) (es : List Entry) → length (rows_from n es) ≡ length es
rows_length n [] = refl
rows_length n (e ∷ es) = ap suc (rows_length (n + 1) es)

pub rows_numbered : (n : ℕ) (es : List Entry) → map (λ (c : model.Commit). c.number) (rows_from n es) ≡ range_with_len n (length (rows_from n es))
rows_numbered n [] = refl
rows_numbered n (e ∷ es) = ap (λ (ns : List ℕ). n ∷ ns) (rows_numbered (n + 1) es)

pub rows_ops : (n : ℕ) (es : List Entry) → ops_of (rows_from n es) ≡ ops_in es
rows_ops n [] = refl
rows_ops n (e ∷ es) = ap (λ (ns : List ℕ). e.ops ∷ ns) (rows_ops (n + 1) es)

-- an entry and its row
pub record IsRowAt (n : ℕ) (es : List Entry) (place : ℕ) (c : model.Commit) : Type 0 where
  pub entry : Entry
  pub there : slice_get es place ≡ Some entry
  pub is : c ≡ row_of (n + place) entry

pub row_at : (n : ℕ) (es : List Entry) (place : ℕ) (d : model.Commit) → place < length (rows_from n es) → IsRowAt n es place (slice_index_or (rows_from n es) place d)
row_at n [] place d low = absurd (omega arith)
row_at n (e ∷ es) zero d low = record { entry = e; there = refl; is = ap (λ (m : ℕ). row_of m e) (omega arith) }
row_at n (e ∷ es) (suc place) d low =
    let rest = row_at (n + 1) es place d (omega arith) in
    record { entry = rest.entry; there = rest.there; is = rest.is ∙ ap (λ (m : ℕ). row_of m rest.entry) (omega arith) }

-- the transactions of the commits, where each is found by its numbers
pub committed_rows : (scripts : List (List Tx)) (n : ℕ) (es : List Entry)
    → ((place : ℕ) (e : Entry) → slice_get es place ≡ Some e → of_turn scripts e.log.client e.log.tx ≡ Some e.log.body)
    → committed scripts (rows_from n es) ≡ txs_of es
committed_rows scripts n [] found = refl
committed_rows scripts n (e ∷ es) found =
    ap (λ (o : Option Tx). option_to_list o ++ committed scripts (rows_from (n + 1) es)) (found zero e refl)
    ∙ ap (λ (ts : List Tx). e.log.body ∷ ts) (committed_rows scripts (n + 1) es (λ place x there. found (suc place) x there))

pub database_by_txs : (n : ℕ) (es : List Entry) (db : Database) → database_by db (take n (txs_of es)) ≡ database_after db (take n es)
database_by_txs zero es db = refl
database_by_txs (suc n) [] db = refl
database_by_txs (suc n) (e ∷ es) db = database_by_txs n es (result_of db e.log.body)

pub database_push : (es : List Entry) (e : Entry) (db : Database) → database_after db (es ++ e ∷ []) ≡ result_of (database_after db es) e.log.body
database_push [] e db = refl
database_push (x ∷ es) e db = database_push es e (result_of db x.log.body)

counted : {X Y : Type 0} (b : Bool) (x : X) (xs : List X) (y : Y) (ys : List Y) → length xs ≡ length ys → length (cond b (x ∷ xs) xs) ≡ length (cond b (y ∷ ys) ys)
counted true x xs y ys same = ap suc same
counted false x xs y ys same = same

-- how many had ended within so many operations
pub within_same : (whole : ℕ) (es : List Entry) → commits_within (commits_of es) whole ≡ ended_within (ops_in es) whole
within_same whole [] = refl
within_same whole (e ∷ es) =
    counted (nat_le e.ops whole) (commit_of e) (filter (λ (c : Commit). nat_le c.ops whole) (commits_of es)) e.ops (filter (λ (n : ℕ). nat_le n whole) (ops_in es)) (within_same whole es)

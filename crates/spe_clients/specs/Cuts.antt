-- What a stop leaves of the files, in terms of the transactions that committed.
use Rattle.std.specs.Prelude.{◌⊎◌, ℕ, nat_le, List, [], ◌∷◌, ◌++◌, length, filter, map, take}
use Rattle.spe_model.specs.declared.commit.Commit as model
use Rattle.spe_model.specs.declared.transaction.Tx.{Tx}
use Rattle.spe_model.specs.Covered.{Covered, Recovers}
use Rattle.spe_model.specs.Database.{Database}
use Rattle.spe_model.specs.Trace.{History, IsCut, Operation, after}
use Rattle.spe_transactions.specs.Kept.{Stops}
use Rattle.spe_store.specs.Opened.{Opened}
use Rattle.spe_store.specs.Served.{AreServed}
use Rattle.spe_clients.specs.Report.{HasFailed}
use Rattle.spe_clients.specs.Serial.{committed, database_after}

-- how many of some transactions had ended after so many operations
abbrev pub ended_within : (ops : List ℕ) (whole : ℕ) → ℕ
ended_within ops whole = length (filter (λ (n : ℕ). nat_le n whole) ops)

-- A cut of the trace recovers pages that are served for the database after those transactions that had ended within it. The
-- list `ops` says of each after how many operations it had.
pub record CutServes (opened : Opened) (h : History) (txs : List Tx) (ops : List ℕ) (cut : List Operation) : Type 0 where
  pub whole : ℕ
  pub stops : Stops h.trace whole cut
  pub pages : List (List ℕ)
  pub recovers : Recovers (after h.first cut) pages
  pub served : (db : Database) → AreServed opened.read opened.pages db → AreServed opened.read pages (database_after db (take (ended_within ops whole) txs))

-- each operation may be torn anywhere, and each cut serves
pub record CutsServe (opened : Opened) (h : History) (txs : List Tx) (ops : List ℕ) : Type 0 where
  pub covered : Covered h.first h.trace
  pub each : (cut : List Operation) → IsCut h.trace cut → CutServes opened h txs ops cut

abbrev pub ops_of : List model.Commit → List ℕ
ops_of order = map (λ (c : model.Commit). c.ops) order

-- some transaction more, which is not listed, had ended with this operation
pub record ServeOneMore (opened : Opened) (h : History) (scripts : List (List Tx)) (order : List model.Commit) : Type 0 where
  pub last : Tx
  pub op : ℕ
  pub cuts : CutsServe opened h (committed scripts order ++ last ∷ []) (ops_of order ++ op ∷ [])

-- each cut serves for the database after the commits within it, or after these and one that is not listed
abbrev pub CutsAreSerial : Opened → History → (scripts : List (List Tx)) (order : List model.Commit) → Type 0
CutsAreSerial opened h scripts order = CutsServe opened h (committed scripts order) (ops_of order) ⊎ ServeOneMore opened h scripts order

-- each cut serves for the database after the commits within it, unless an operation has failed
abbrev pub CutsAreExact : Opened → (faults : ℕ) → History → (scripts : List (List Tx)) (order : List model.Commit) → Type 0
CutsAreExact opened faults h scripts order = CutsServe opened h (committed scripts order) (ops_of order) ⊎ HasFailed opened.faults faults (length h.trace)

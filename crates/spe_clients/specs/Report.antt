-- The disk that a run gives back.
use Rattle.std.specs.Prelude.{◌≡◌, ◌⊎◌, ◌-◌, ◌^◌, ◌≤◌, ℕ, List, All, length, Option, Some}
use Rattle.spe_model.specs.declared.transcript.Outcome.{Outcome}
use Rattle.spe_model.specs.Faults.{Rose}
use Rattle.spe_model.specs.Trace.{History}
use Rattle.spe_store.specs.Desk.{Counts}
use Rattle.spe_store.specs.Opened.{Opened}
use Rattle.spe_store.specs.Store.{IsOf}
use Rattle.spe_clients.specs.Ended.{IsStoppedAt}

-- The disk is the one of the opening, its operations are counted, and its counts of faults have not fallen. It has stopped at
-- each operation that an outcome names.
pub record IsLeft (opened : Opened) (told : Option History) (reads faults : ℕ) (outcomes : List Outcome) : Type 0 where
  pub ops : ℕ
  pub stopped : Option ℕ
  pub of : IsOf opened (record { told = told; ops = ops; stopped = stopped; reads = reads; faults = faults })
  pub counted : Counts told stopped ops
  pub named : All (λ (o : Outcome). (op : ℕ) → IsStoppedAt op o → stopped ≡ Some op) outcomes

-- an operation has failed since the opening, or this one is the last that can be counted
abbrev pub HasFailed : (before now op : ℕ) → Type 0
HasFailed before now op = Rose before now ⊎ (2 ^ 64 - 1 ≤ op)

-- an outcome names an operation only where one has failed
abbrev pub AreCaused : Opened → (faults : ℕ) → List Outcome → Type 0
AreCaused opened faults outcomes = All (λ (o : Outcome). (op : ℕ) → IsStoppedAt op o → HasFailed opened.faults faults op) outcomes

-- no operation was made after one that an outcome names
abbrev pub NoneFollows : History → List Outcome → Type 0
NoneFollows h outcomes = All (λ (o : Outcome). (op : ℕ) → IsStoppedAt op o → length h.trace ≤ op) outcomes

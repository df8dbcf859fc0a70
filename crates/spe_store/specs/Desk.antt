-- A disk with a count of its operations, which stops at the first that fails.
use Rattle.std.specs.Prelude.{Bool, true, false, ◌≡◌, ℕ, ◌≤◌, ◌+◌, ◌-◌, ◌*◌, ◌^◌, ◌⊎◌, List, [], ◌∷◌, length, Option, Some, None, Result, Ok, Err}
use Rattle.spe_model.specs.declared.file.FileNo.TheVariants.{Database}
use Rattle.spe_model.specs.Content.{bytes_of, filled}
use Rattle.spe_model.specs.Faults.{Rose}
use Rattle.spe_model.specs.Trace.{History, IsTorn, Operation, present}
use Rattle.spe_disk.specs.Told.{Adds}
use Rattle.spe_store.specs.declared.stop.Stop.{Stop}

-- what is known of a disk, how many operations it has made, and at which it has stopped
pub record Desk : Type 0 where
  pub told : Option History
  pub ops : ℕ
  pub stopped : Option ℕ
  pub reads : ℕ
  pub faults : ℕ

-- Where it is told, the operations are counted. One that has failed, and at which it has stopped, was made or was not, and none
-- is made after that.
abbrev pub Counts : Option History → Option ℕ → ℕ → Type 0
Counts None None ops = Unit {0}
Counts None (Some op) ops = ops ≤ op
Counts (Some h) None ops = ops ≡ length h.trace
Counts (Some h) (Some op) ops = (ops ≤ length h.trace) × (length h.trace ≤ op)

-- the operation was made
pub record Does (old new : Desk) (o : Operation) : Type 0 where
  pub going : old.stopped ≡ None
  pub still : new.stopped ≡ None
  pub adds : Adds old.told new.told (o ∷ [])
  pub ops : new.ops ≡ old.ops + 1
  pub reads : new.reads ≡ old.reads
  pub faults : old.faults ≤ new.faults

-- all or some first bytes of an operation, or nothing, was added
abbrev pub LeavesPart : Option History → Option History → Operation → Type 0
LeavesPart old new o = (new ≡ old) ⊎ ((part : Operation) × ((part ≡ o) ⊎ IsTorn o part) × Adds old new (part ∷ []))

-- the operation failed, so that it was made or not, or torn
pub record Breaks (old new : Desk) (o : Operation) (op : ℕ) : Type 0 where
  pub going : old.stopped ≡ None
  pub stopped : new.stopped ≡ Some op
  pub left : LeavesPart old.told new.told o
  pub cause : Rose old.faults new.faults ⊎ (old.ops ≡ 2 ^ 64 - 1)
  pub ops : new.ops ≡ old.ops
  pub counted : Counts old.told old.stopped old.ops
  pub number : (op ≡ old.ops + 1) ⊎ ((op ≡ old.ops) × (old.ops ≡ 2 ^ 64 - 1) × (new.told ≡ old.told))
  pub reads : new.reads ≡ old.reads
  pub faults : old.faults ≤ new.faults

-- an operation is made, or was stopped before, or stops now
abbrev pub Tries : (old new : Desk) → Operation → Result (Unit {0}) Stop → Type 0
Tries old new o (Ok x) = Does old new o
Tries old new o (Err stop) = ((old.stopped ≡ Some stop.op) × (new ≡ old)) ⊎ Breaks old new o stop.op

-- nothing was tried
abbrev pub LeavesDesk : (old new : Desk) → Result (Unit {0}) Stop → Type 0
LeavesDesk old new (Ok x) = (old.stopped ≡ None) × (new ≡ old)
LeavesDesk old new (Err stop) = (old.stopped ≡ Some stop.op) × (new ≡ old)

-- an operation is made where there is one to make
abbrev pub TriesIf : Bool → (old new : Desk) → Operation → Result (Unit {0}) Stop → Type 0
TriesIf true old new o result = Tries old new o result
TriesIf false old new o result = LeavesDesk old new result

-- nothing was done but a reading
pub record Looks (old new : Desk) : Type 0 where
  pub told : new.told ≡ old.told
  pub ops : new.ops ≡ old.ops
  pub stopped : new.stopped ≡ old.stopped
  pub faults : new.faults ≡ old.faults
  pub reads : old.reads ≤ new.reads

-- these are the bytes of a page of the database, where it has the page
abbrev pub ReadsPage : Option History → (page_size page : ℕ) → List ℕ → Type 0
ReadsPage None page_size page bytes = Unit {0}
ReadsPage (Some h) page_size page bytes = bytes ≡ filled (bytes_of (present h) Database) ((page - 1) * page_size) page_size

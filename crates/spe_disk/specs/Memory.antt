-- What a disk in memory tells.
use Rattle.std.specs.Prelude.{◌≡◌, ℕ, ◌-◌, ◌||◌, ◌&&◌, not, nat_lt, nat_le, Bool, true, false, List, [], ◌∷◌, ◌++◌, length, replicate, None, Result, Ok, Err, is_err, if◌then◌else◌}
use Rattle.spe_model.specs.Content.{Content}
use Rattle.spe_model.specs.declared.file.FileNo.TheVariants.{Journal}
use Rattle.spe_model.specs.Trace.{Operation, History, present}
use Rattle.spe_model.specs.Trace.Operation.{Cut}
use Rattle.spe_disk.specs.Told.{absent_journals}
use Rattle.spe_disk.specs.Listed.{next_number, is_listed}
use Rattle.spe_disk.specs.declared.disk.Failed.{Failed}
use Rattle.spe_disk.specs.declared.memory.Faults.{Faults}
use Rattle.spe_disk.specs.declared.memory.MemDisk.{MemDisk}

-- what its files held when it was attached, or hold so far where it was not
abbrev pub first_files : MemDisk → Content
first_files disk = disk.log.first

-- the operations made since
abbrev pub trace_of : MemDisk → List Operation
trace_of disk = disk.log.trace

abbrev pub history_of : MemDisk → History
history_of disk = record { first = first_files disk; trace = trace_of disk }

abbrev pub no_files : Content
no_files = replicate 17 None

-- how many bytes it was made to take beside those that it held from the start
abbrev pub whole_room : MemDisk → ℕ
whole_room disk = disk.room

-- how many more it may take
abbrev pub free_room : MemDisk → ℕ
free_room disk = disk.log.left

-- how many operations it may make
abbrev pub operation_limit : MemDisk → ℕ
operation_limit disk = disk.log.limit

abbrev pub is_attached : MemDisk → Bool
is_attached disk = disk.attached

-- how often a reading call has failed
abbrev pub read_fault_count : MemDisk → ℕ
read_fault_count disk = disk.read_faults

-- how often an operation has failed
abbrev pub op_fault_count : MemDisk → ℕ
op_fault_count disk = disk.op_faults

-- which of its calls are to fail
abbrev pub faults_of : MemDisk → Faults
faults_of disk = disk.failing

abbrev pub no_faults : Faults
no_faults = record { reads = []; ops = []; made = false }

-- how many reading calls there were, up to the greatest number of their type
abbrev pub read_count : MemDisk → ℕ
read_count disk = disk.reads

-- how many operations were tried, up to the greatest number of their type
abbrev pub try_count : MemDisk → ℕ
try_count disk = disk.tried

-- whether the next reading call is to fail
abbrev pub is_read_listed : MemDisk → Bool
is_read_listed disk = is_listed (faults_of disk).reads (next_number (read_count disk))

-- whether the next operation is to fail
abbrev pub is_op_listed : MemDisk → Bool
is_op_listed disk = is_listed (faults_of disk).ops (next_number (try_count disk))

-- whether there is room for one more operation, which takes so many bytes
abbrev pub fits : MemDisk → ℕ → Bool
fits disk taken = nat_lt (length (trace_of disk)) (operation_limit disk) && nat_le taken (free_room disk)

-- whether it would be made
abbrev pub makes : MemDisk → ℕ → Bool
makes disk taken = (not (is_op_listed disk) || (faults_of disk).made) && fits disk taken

-- what a disk was made with stays
pub record IsSameDisk (old new : MemDisk) : Type 0 where
  pub room : whole_room new ≡ whole_room old
  pub limit : operation_limit new ≡ operation_limit old
  pub faults : faults_of new ≡ faults_of old

-- a reading call fails exactly where it is listed
pub record ReadsAsListed {T : Type 0} (old new : MemDisk) (result : Result T Failed) : Type 0 where
  pub fails : is_err result ≡ is_read_listed old
  pub reads : read_count new ≡ next_number (read_count old)
  pub tried : try_count new ≡ try_count old
  pub room : free_room new ≡ free_room old
  pub same : IsSameDisk old new

-- An operation fails exactly where it is listed or does not fit. It is made where it fits and is not listed, or the disk makes the listed ones.
pub record TriesAsListed (old new : MemDisk) (operation : Operation) (taken : ℕ) (failed : Bool) : Type 0 where
  pub fails : failed ≡ (is_op_listed old || not (fits old taken))
  pub trace : trace_of new ≡ (if makes old taken then trace_of old ++ operation ∷ [] else trace_of old)
  pub room : free_room new ≡ (if makes old taken then free_room old - taken else free_room old)
  pub reads : read_count new ≡ read_count old
  pub tried : try_count new ≡ next_number (try_count old)
  pub same : IsSameDisk old new

-- the same of a call that makes one operation
abbrev pub OperatesAsListed : {T : Type 0} → (old new : MemDisk) → Operation → (taken : ℕ) → Result T Failed → Type 0
OperatesAsListed old new operation taken result = TriesAsListed old new operation taken (is_err result)

-- The journals of these numbers were made one after the other, each by one operation that did not fail.
abbrev pub AreMadeAsListed : List ℕ → (old new : MemDisk) → Type 0
AreMadeAsListed [] old new = new ≡ old
AreMadeAsListed (n ∷ ns) old new = (next : MemDisk) × TriesAsListed old next (Cut (Journal n) 0) 0 false × AreMadeAsListed ns next new

-- Some first of them were, and the operation for the next one failed.
pub record FailsAsListed (numbers : List ℕ) (old new : MemDisk) : Type 0 where
  pub front : List ℕ
  pub failing : ℕ
  pub rest : List ℕ
  pub parts : numbers ≡ front ++ failing ∷ rest
  pub before : MemDisk
  pub made : AreMadeAsListed front old before
  pub fails : TriesAsListed before new (Cut (Journal failing) 0) 0 true

-- For each absent journal one operation is tried, in ascending order, up to the first that fails.
abbrev pub MakesAsListed : (old new : MemDisk) → Result ℕ Failed → Type 0
MakesAsListed old new (Ok n) = AreMadeAsListed (absent_journals (present (history_of old))) old new
MakesAsListed old new (Err e) = FailsAsListed (absent_journals (present (history_of old))) old new
